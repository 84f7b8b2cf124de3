-- What a step that was refused answers.
use Rattle.std.proofs.Common.{◌≡◌, ℕ, Bool, Result, Err, ap, sym, subst, ◌∙◌}
use Rattle.hcl_grammar.specs.declared.fault.TokenFault.{TokenFault}
use Rattle.hcl_grammar.specs.Pure.Reading.{Outcome, Step, and_then, ReadsExactly}
use Rattle.hcl_parse.specs.Rules.{Yields}

-- if the first step is refused, its error is the error of the whole
pub refused : (may : Bool) {A B : Type 0} {p : Outcome A} {q : Outcome B} {e : TokenFault} {r : Result B TokenFault} (f : A → Step B) (at new : ℕ) → r ≡ Err e → q ≡ and_then p f → Yields may p (Err e) at → Yields may q r new
refused may {q} f at new same e h = subst (λ r. Yields may q r new) (sym same) (λ own. e ∙ ap (λ o. and_then o f) (h own))

-- as `refused`, of steps that take no memory
pub gives_refused : (may : Bool) {A B : Type 0} {p : Outcome A} {q : Outcome B} {e : TokenFault} {r : Result B TokenFault} (f : A → Step B) (at new : ℕ) → r ≡ Err e → q ≡ and_then p f → ReadsExactly p (Err e) at → Yields may q r new
gives_refused may {q} f at new same e h = subst (λ r. Yields may q r new) (sym same) (λ own. e ∙ ap (λ o. and_then o f) h)
