-- A loop that counts up, against a recursion on the turns that are left; and what a step that was
-- refused answers.
use Rattle.std.proofs.Common.{◌≡◌, ℕ, suc, ◌+◌, ◌-◌, ◌<◌, ◌≤◌, Result, Err, ap, sym, subst, ◌∙◌, arith}
use Rattle.hcl_grammar.specs.declared.fault.TokenFault.{TokenFault}
use Rattle.hcl_grammar.specs.Pure.Reading.{Outcome, Step, and_then, ReadsExactly}

-- in a turn, one more is left
pub one_left : {X : Type 0} {r : X} (left : ℕ → X) {fuel turn : ℕ} → turn < fuel → r ≡ left (fuel - turn) → r ≡ left (suc (fuel - (turn + 1)))
one_left left {fuel} {turn} skip_newlines e = let count : fuel - turn ≡ suc (fuel - (turn + 1)) = omega (arith, skip_newlines) in e ∙ ap left count

-- after the last, none is left
pub none_left : {X : Type 0} {r : X} (left : ℕ → X) {fuel turn : ℕ} → fuel ≤ turn → r ≡ left (fuel - turn) → r ≡ left 0
none_left left {fuel} {turn} over e = let count : fuel - turn ≡ 0 = omega (arith, over) in e ∙ ap left count

-- if the first step is refused, its error is the error of the whole
pub refused : {A B : Type 0} {p : Outcome A} {q : Outcome B} {e : TokenFault} {r : Result B TokenFault} (f : A → Step B) (at new : ℕ) → r ≡ Err e → q ≡ and_then p f → ReadsExactly p (Err e) at → ReadsExactly q r new
refused {q} f at new same e h = subst (λ r. ReadsExactly q r new) (sym same) (e ∙ ap (λ o. and_then o f) h)
