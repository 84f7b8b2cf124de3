-- What was written into a buffer that was empty.
use Rattle.std.proofs.Common.{◌≡◌, ◌∙◌, ℕ, true, List, [], ◌++◌, Option, None, Some, Result, Ok, Err, OnOk, ap}
use Rattle.std.proofs.lemmas.Bool.{false≢true}
use Rattle.std.proofs.lemmas.Fmt.{contents_after_writes}
use Rattle.std.specs.Fmt.{WritesText}
use Rattle.std.specs.Prelude.{IfSome, is_ok}

pub written : {W : Type 0} {took : W → List ℕ → W → Type 0} (text : Option (List ℕ)) (w v : W) → WritesText took w text v → (contents : W → List ℕ)
    → ((w : W) (bs : List ℕ) (v : W) → took w bs v → contents v ≡ contents w ++ bs) → contents w ≡ [] → IfSome text (λ bs. contents v ≡ bs)
written None w v writes contents appends empty = tt
written {took = took} (Some bs) w v writes contents appends empty = contents_after_writes took contents appends w bs v writes ∙ ap (λ (l : List ℕ). l ++ bs) empty

pub on_ok : {E X : Type 0} (r : Result (Unit {0}) E) → is_ok r ≡ true → OnOk r X → X
on_ok (Ok done) is x = x
on_ok (Err error) is x = absurd (false≢true is)
