-- A write that took something has not failed.
use Rattle.std.proofs.Common.{◌≡◌, ◌≢◌, ◌∙◌, ◌<◌, ℕ, Bool, true, false, refl, arith}
use Rattle.std.specs.Prelude.{◌==◌, ◌||◌, ◌&&◌, nat_lt}
use Rattle.std.proofs.lemmas.Bool.{and_left, ne_eqb}

or_false : (old b : Bool) → b ≡ false → (old || b) ≡ old
or_false true b e = refl
or_false false b e = e

pub some_taken : (old new : Bool) (n len : ℕ) → new ≡ (old || ((n == 0) && nat_lt 0 len)) → 0 < n → new ≡ old
some_taken old new n len is some =
    let differs : n ≢ 0 = λ e. omega (arith, some, e) in
    is ∙ or_false old ((n == 0) && nat_lt 0 len) (and_left (n == 0) (nat_lt 0 len) (ne_eqb n 0 differs))
