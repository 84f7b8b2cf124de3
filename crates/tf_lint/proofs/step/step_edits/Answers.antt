-- What was found in the text that was searched is what the rules of the set find in it.
use Rattle.std.proofs.Common.{◌≡◌, ◌⊎◌, length, sym, subst}
use Rattle.tf_rules.specs.ValidFindings.{AreValidFindings}
use Rattle.tf_lint.specs.Steps.{CannotStep}
use Rattle.tf_lint.specs.Faults.{fault_of_lint}
use Rattle.tf_lint.specs.declared.fault.FixFault.{FixFault}
use Rattle.tf_lint.specs.declared.fault.FixFault.TheVariants.{TooLong, Memory}
use Rattle.tf_lint.proofs.LintLemmas.{is_found, valid_of, cannot}
use Rattle.tf_lint.proofs.FileLemmas.{residual}
use Rattle.tf_lint.proofs.step.step_edits.Goals as goal

pub fix_step_of_findings-requires-clause-found : goal.fix_step_of_findings-requires-clause-found
fix_step_of_findings-requires-clause-found c =
    let (p, h) = c.requires.linted in
    (p, is_found p c.args.linted.now c.as_slice-found.result.now c.as_slice-found.ensures.value h)

pub fix_step_of_findings-requires-clause-valid : goal.fix_step_of_findings-requires-clause-valid
fix_step_of_findings-requires-clause-valid c =
    let (p, h) = c.requires.linted in
    let s = c.args.linted.now in
    subst (AreValidFindings (length s.scanned.pairs)) (sym c.as_slice-found.ensures.value) (valid_of p s h)

pub returns-clause-step : goal.returns-clause-step
returns-clause-step c = λ p h.
    c.in_ok-edits.ensures.step p (is_found p c.args.linted.now c.as_slice-found.result.now c.as_slice-found.ensures.value h)

pub returns-in_err-edits-clause-fault : goal.returns-in_err-edits-clause-fault
returns-in_err-edits-clause-fault c = λ p h.
    let found = is_found p c.args.linted.now c.as_slice-found.result.now c.as_slice-found.ensures.value h in
    let why = c.in_err-edits.field-0.0 in
    residual c.from_residual.result (fault_of_lint why) (λ (fault : FixFault). (fault ≡ Memory) ⊎ ((fault ≡ TooLong) × CannotStep c.args.rule p fault))
    c.from_residual.ensures (cannot c.args.rule p why (c.in_err-edits.ensures.fault p found))
