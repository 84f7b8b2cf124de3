-- What the code ensures of each builder, by the pure parser that makes nodes.
use Rattle.std.proofs.Common.{◌≡◌, ◌≢◌, ℕ, true, false, Result, Ok, Err, refl, ap, subst, ◌∙◌}
use Rattle.hcl_grammar.specs.declared.fault.TokenFault.{TokenFault}
use Rattle.hcl_grammar.specs.declared.fault.TokenFault.TheVariants.{Syntax, TooDeep, Memory}
use Rattle.hcl_grammar.specs.Pure.Reading.{Outcome, Reads}
use Rattle.hcl_parse.specs.Alike.{Alike, read, fault}
use Rattle.hcl_parse.specs.Roots.{Ends}
use Rattle.hcl_parse.specs.Rules.{IsOwn, Yields}

own : (e : TokenFault) → e ≢ Memory → IsOwn true e
own Memory h = absurd (h refl)
own (Syntax at) h = tt
own (TooDeep at) h = tt

always_own : (e : TokenFault) → IsOwn false e
always_own Memory = refl
always_own (Syntax at) = tt
always_own (TooDeep at) = tt

pub reads : {A : Type 0} (o : Outcome A) (r : Result A TokenFault) (new : ℕ) → Yields true o r new → Reads o r new
reads o (Ok x) new h = h
reads o (Err f) new h = λ other. h (own f other)

-- where what is read ends, if anything is
abbrev end_of : {A : Type 0} → ℕ → Outcome A → ℕ
end_of i (Ok y) = y.1
end_of i (Err e) = i

same_fault : {A B : Type 0} (q : Outcome B) (e f : TokenFault) → (o : Outcome A) → o ≡ Err e → o ≡ Err f → q ≡ Err e → e ≢ Memory → (q ≡ Err f) × (f ≢ Memory)
same_fault q e f o h k is other = let same : e ≡ f = cc in (is ∙ ap (λ e. Err e) same, subst (λ e. e ≢ Memory) same other)

pub ends : {B : Type 0} {R : Unit {0} → B → Type 0} {o : Outcome (Unit {0})} {q : Outcome B} → Alike R o q → (r : Result (Unit {0}) TokenFault) (new : ℕ) → Yields false o r new → Ends q r new
ends {B} (read {x} {y} {i} h) (Ok b) new e = (y, ap (λ (n : ℕ). Ok (y, n)) (ap (end_of i) e))
ends (read {x} {y} {i} h) (Err f) new e = absurd (let clash : Ok (x, i) ≡ Err f = e (always_own f) in cc)
ends (fault {e = f} other) (Ok b) new e = absurd (cc)
ends (fault {e = f} other) (Err d) new e = same_fault (Err f) f d (Err f) refl (e (always_own d)) refl other
