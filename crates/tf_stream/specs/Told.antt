-- What a clause reads of a `Told`, and what a call through it leaves.
use Rattle.std.specs.Prelude.{◌≡◌, ◌==◌, ◌||◌, ◌&&◌, ℕ, Bool, true, List, length, Result, Ok, Err}
use Rattle.std.specs.Prelude.{MatchResult, nat_lt}
use Rattle.tf_stream.specs.declared.told.Told.{Told}

-- the reader or writer inside
abbrev pub inner_of : {T : Type 0} → Told T → T
inner_of t = t.inner

-- whether a call failed, or a write took nothing
abbrev pub has_failed : {T : Type 0} → Told T → Bool
has_failed t = t.failed

-- a call that failed is kept, and one that did not changes nothing
abbrev pub RecordsFailure : {X : Type 0} {E : Type 0} → Bool → Bool → Result X E → Type 0
RecordsFailure old new r = MatchResult r (λ _. new ≡ old) (λ _. new ≡ true)

-- the same of a write, which has failed too if it took none of some bytes
abbrev pub RecordsWriteFailure : {E : Type 0} → Bool → Bool → Result ℕ E → List ℕ → Type 0
RecordsWriteFailure old new (Ok n) buf = new ≡ (old || ((n == 0) && nat_lt 0 (length buf)))
RecordsWriteFailure old new (Err e) buf = new ≡ true
