-- The template sequence in which a text ends: a text has one error, or one list of tokens.
use Rattle.std.proofs.Common.{◌≡◌, ℕ, List, Option, Some, None, Result, Ok, Err, inl, inr, Bool}
use Rattle.std.proofs.Common.{true, false, sym, subst, ◌∙◌, ◌⊎◌, take}
use Rattle.std.proofs.lemmas.Bool.{false≢true}
use Rattle.std.specs.Prelude.{IfOk, IfSome, IfNone, IsErr}
use Rattle.std.specs.Bool.{Decides}
use Rattle.hcl_token.specs.Tokens.{Pair}
use Rattle.hcl_scan.specs.Tokenization.{IsTokenization}
use Rattle.hcl_scan.specs.Fault.{IsFault}
use Rattle.hcl_scan.specs.ScanResult.{IsScanFault}
use Rattle.hcl_scan.specs.declared.fault.ScanFault.{ScanFault}
use Rattle.hcl_scan.specs.declared.fault.ScanFault.TheVariants.{Memory, OpenTemplate}
use Rattle.hcl_explain.specs.Sequences.{HasTokens, IsOpenBefore}
use Rattle.hcl_explain.proofs.SaidLemmas.{OneTokenization, NoTokenizationWithFault}

abbrev pub OneFault : Type 0
OneFault = (text : List ℕ) (fault other : ScanFault) → IsFault text fault → IsFault text other
    → fault ≡ other

abbrev pub IsOpened : ScanFault → Option ℕ → Type 0
IsOpened fault o = IfSome o (λ at. fault ≡ OpenTemplate at)

abbrev pub IsNone : ScanFault → Option ℕ → Type 0
IsNone fault o = IfNone o ((at : ℕ) → fault ≡ OpenTemplate at → ⊥)

-- no template sequence is open at the end of a text whose error is another
pub none_open : {E : Type 0} → OneFault → (text : List ℕ) (fault : ScanFault)
    (result : Result (Option ℕ) E) → IsScanFault text fault
    → IfOk result (IsNone fault) → (fault ≡ Memory → IsErr result)
    → IfOk result (λ o. IfNone o ((at : ℕ) → IsFault text (OpenTemplate at) → ⊥))
none_open one text fault (Err e) why none memory = tt
none_open one text fault (Ok (Some at)) why none memory = tt
none_open one text fault (Ok None) (inl out) none memory = absurd (false≢true (memory out.0))
none_open one text fault (Ok None) (inr is) none memory =
    λ at opened. none at (one text fault (OpenTemplate at) is opened)

-- whether the tokens of a text have a property, if these are its tokens
pub decided : OneTokenization → (holds : List Pair → Bool) → (given text : List ℕ)
    (pairs : List Pair) (last : List ℕ) (b : Bool)
    → given ≡ text → IsTokenization given pairs last → b ≡ holds pairs
    → Decides b (HasTokens holds text)
decided one holds given text pairs last b same tokens is =
    let of_text = subst (λ (x : List ℕ). IsTokenization x pairs last) same tokens in (
      (λ yes. (pairs, last, of_text, sym is ∙ yes)),
      (λ h. is ∙ subst (λ (x : List Pair). holds x ≡ true)
          (sym (one text pairs h.0 last h.1 of_text h.2).0) h.3),
    )

-- a text that has an error has no tokens
pub not_tokens : {E : Type 0} → NoTokenizationWithFault → (holds : List Pair → Bool)
    → (given text : List ℕ) (fault : ScanFault)
    (result : Result Bool E) → given ≡ text → IsScanFault given fault
    → IfOk result (λ b. b ≡ false) → (fault ≡ Memory → IsErr result)
    → IfOk result (λ b. Decides b (HasTokens holds text))
not_tokens never holds given text fault (Err e) same why not memory = tt
not_tokens never holds given text fault (Ok b) same (inl out) not memory =
    absurd (false≢true (memory out.0))
not_tokens never holds given text fault (Ok b) same (inr is) not memory = (
  (λ yes. absurd (false≢true (sym not ∙ yes))),
  (λ h. absurd (never given fault h.0 h.1 is
      (subst (λ (x : List ℕ). IsTokenization x h.0 h.1) (sym same) h.2))),
)

-- what is decided of a text is decided of one that is equal to it
pub decided_of : {E : Type 0} → (Holds : List ℕ → Type 0) (given text : List ℕ)
    (result : Result Bool E) → given ≡ text → IfOk result (λ b. Decides b (Holds given))
    → IfOk result (λ b. Decides b (Holds text))
decided_of Holds given text result same h =
    subst (λ (x : List ℕ). IfOk result (λ b. Decides b (Holds x))) same h

third_of : {Ended : Type 0} → (feeds ends : Bool) → feeds ≡ true → ends ≡ false
    → (feeds ≡ false) ⊎ (ends ≡ true) ⊎ Ended → Ended
third_of feeds ends has none (inl x) = absurd (false≢true (sym x ∙ has))
third_of feeds ends has none (inr (inl x)) = absurd (false≢true (sym none ∙ x))
third_of feeds ends has none (inr (inr x)) = x

-- of three cases neither the first nor the second is
pub only_third : {E : Type 0} → (Ended : Type 0) (feeds ends : Bool) (result : Result Bool E)
    → feeds ≡ true → ends ≡ false → IfOk result (λ b. Decides b Ended)
    → IfOk result (λ b. Decides b ((feeds ≡ false) ⊎ (ends ≡ true) ⊎ Ended))
only_third Ended feeds ends (Err e) has none decides = tt
only_third Ended feeds ends (Ok b) has none decides = (
  (λ holds. inr (inr (decides.0 holds))),
  (λ h. decides.1 (third_of feeds ends has none h)),
)

-- ---- the sequence that is open before a byte

pub opened_is : (text before : List ℕ) (at opened : ℕ) (o : Option ℕ) → before ≡ take at text
    → o ≡ Some opened → IfSome o (λ i. IsFault before (OpenTemplate i))
    → IsOpenBefore text at opened
opened_is text before at opened o same is h =
    subst (λ (x : List ℕ). IsFault x (OpenTemplate opened)) same
    (subst (λ (x : Option ℕ). IfSome x (λ i. IsFault before (OpenTemplate i))) is h)

pub none_is : (text before : List ℕ) (at : ℕ) (o : Option ℕ) → before ≡ take at text → o ≡ None
    → IfNone o ((i : ℕ) → IsFault before (OpenTemplate i) → ⊥)
    → (i : ℕ) → IsOpenBefore text at i → ⊥
none_is text before at o same is h =
    subst (λ (x : List ℕ). (i : ℕ) → IsFault x (OpenTemplate i) → ⊥) same
    (subst (λ (x : Option ℕ). IfNone x ((i : ℕ) → IsFault before (OpenTemplate i) → ⊥)) is h)

-- what holds of an explanation is the first of two cases
pub in_first : {E X Is : Type 0} → (Holds Other : X → Type 0) → (result : Result X E) → Is
    → IfOk result Holds → IfOk result (λ e. (Is × Holds e) ⊎ Other e)
in_first Holds Other (Err e) is h = tt
in_first Holds Other (Ok e) is h = inl (is, h)
