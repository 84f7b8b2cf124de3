-- A text has one error: whether it is one that a template sequence makes.
use Rattle.std.proofs.Common.{◌≡◌, ℕ, List, Result, Ok, Err, inl, inr, Bool, subst, false, sym}
use Rattle.std.proofs.Common.{◌∙◌, ◌⊎◌}
use Rattle.std.proofs.lemmas.Bool.{false≢true}
use Rattle.std.specs.Prelude.{IfOk, IsErr}
use Rattle.std.specs.Bool.{Decides}
use Rattle.hcl_scan.specs.Fault.{IsFault}
use Rattle.hcl_scan.specs.ScanResult.{IsScanFault}
use Rattle.hcl_scan.specs.declared.fault.ScanFault.{ScanFault}
use Rattle.hcl_scan.specs.declared.fault.ScanFault.TheVariants.{Memory}
use Rattle.hcl_explain.specs.Sequences.{IsMadeBy, MakesError}
use Rattle.hcl_explain.proofs.SequenceLemmas.{OneFault}

-- the error is this one if the one that was found is
pub by_fault : {E : Type 0} → OneFault → (text : List ℕ) (fault wanted : ScanFault)
    (result : Result Bool E) → IsScanFault text fault
    → IfOk result (λ b. Decides b (fault ≡ wanted)) → (fault ≡ Memory → IsErr result)
    → IfOk result (λ b. Decides b (IsFault text wanted))
by_fault one text fault wanted (Err e) why is memory = tt
by_fault one text fault wanted (Ok b) (inl out) is memory = absurd (false≢true (memory out.0))
by_fault one text fault wanted (Ok b) (inr why) is memory = (
  (λ yes. subst (λ (x : ScanFault). IsFault text x) (is.0 yes) why),
  (λ h. is.1 (one text fault wanted why h)),
)

-- the sequence makes the error if it makes the one that was found
pub made_by_fault : {E : Type 0} → OneFault → (text : List ℕ) (opened : ℕ) (fault : ScanFault)
    (result : Result Bool E) → IsScanFault text fault
    → IfOk result (λ b. Decides b (IsMadeBy text opened fault)) → (fault ≡ Memory → IsErr result)
    → IfOk result (λ b. Decides b (MakesError text opened))
made_by_fault one text opened fault (Err e) why made memory = tt
made_by_fault one text opened fault (Ok b) (inl out) made memory =
    absurd (false≢true (memory out.0))
made_by_fault one text opened fault (Ok b) (inr why) made memory = (
  (λ yes. (fault, why, made.0 yes)),
  (λ m. made.1 (subst (λ (x : ScanFault). IsMadeBy text opened x)
      (one text m.0 fault m.1 why) m.2)),
)

-- of three facts two hold, and the third is decided
pub all_of : {E : Type 0} → (First Second : Type 0) (Third : List ℕ → Type 0)
    (given text : List ℕ) (result : Result Bool E) → First → Second → given ≡ text
    → IfOk result (λ b. Decides b (Third given))
    → IfOk result (λ b. Decides b (First × Second × Third text))
all_of First Second Third given text (Err e) first second same decides = tt
all_of First Second Third given text (Ok b) first second same decides =
    let of_text = subst (λ (x : List ℕ). Decides b (Third x)) same decides in (
      (λ yes. (first, second, of_text.0 yes)),
      (λ all. of_text.1 all.2),
    )

-- what holds of an explanation is the second of two cases
pub in_second : {E X Isnt : Type 0} → (Holds Other : X → Type 0) → (result : Result X E) → Isnt
    → IfOk result Holds → IfOk result (λ e. Other e ⊎ (Isnt × Holds e))
in_second Holds Other (Err e) isnt h = tt
in_second Holds Other (Ok e) isnt h = inr (isnt, h)

-- what is decided not to be so is not
pub is_not : {Is : Type 0} → (b : Bool) → b ≡ false → Decides b Is → Is → ⊥
is_not b refuted decides is = false≢true (sym refuted ∙ decides.1 is)
