-- The set of one rule has it.
use Rattle.std.proofs.Common.{◌≡◌, ◌⊎◌, List, refl, sym, subst}
use Rattle.tf_rules.specs.declared.finding.Finding.{Finding}
use Rattle.tf_fix.specs.OneStep.{RulesFind, IsTooLong}
use Rattle.tf_fix.specs.declared.fault.LintFault.{LintFault}
use Rattle.tf_fix.specs.declared.fault.LintFault.TheVariants.{TooLong, Memory}
use Rattle.tf_fix.specs.declared.parsed.Parsed.{Parsed}
use Rattle.tf_rules_laws.proofs.OneRule.{has_itself}
use Rattle.tf_fix.proofs.StepLemmas.{handed_on}
use Rattle.tf_fix.proofs.step.fix_step.Goals as goal

pub fix_step_of_findings-requires-clause-rule_in_set : goal.fix_step_of_findings-requires-clause-rule_in_set
fix_step_of_findings-requires-clause-rule_in_set c = rw c.only-only.ensures (has_itself c.args.rule)

pub fix_step_of_findings-requires-clause-found : goal.fix_step_of_findings-requires-clause-found
fix_step_of_findings-requires-clause-found c =
    let p : Parsed = record { scanned = c.args.scanned.now; tree = c.args.tree.now } in
    (p, (refl, c.requires, subst (λ (fs : List Finding). RulesFind c.only-only.result p fs) (sym c.deref.ensures.value) c.in_ok-found.ensures.are))

pub returns-clause-step : goal.returns-clause-step
returns-clause-step c =
    let p : Parsed = record { scanned = c.args.scanned.now; tree = c.args.tree.now } in
    (c.in_ok-step.step.count, c.in_ok-step.ensures.step p (refl, c.requires, subst (λ (fs : List Finding). RulesFind c.only-only.result p fs) (sym c.deref.ensures.value) c.in_ok-found.ensures.are))

pub returns-in_err-step-clause-fault : goal.returns-in_err-step-clause-fault
returns-in_err-step-clause-fault c =
    let p : Parsed = record { scanned = c.args.scanned.now; tree = c.args.tree.now } in
    handed_on c.from_residual-in_err-step.result c.in_err-step.field-0.0 (λ (fault : LintFault). (fault ≡ Memory) ⊎ ((fault ≡ TooLong) × IsTooLong c.args.rule p)) c.from_residual-in_err-step.ensures
    (c.in_err-step.ensures.fault p (refl, c.requires, subst (λ (fs : List Finding). RulesFind c.only-only.result p fs) (sym c.deref.ensures.value) c.in_ok-found.ensures.are))
