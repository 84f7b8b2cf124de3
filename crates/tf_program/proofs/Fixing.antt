-- What a fix of a text comes to, and what a count says of a file.
use Rattle.std.proofs.Common.{◌≡◌, ◌<◌, ℕ, zero, suc, refl, sym, subst, inr, arith}
use Rattle.tf_rules.specs.declared.rule_set.RuleSet.{RuleSet}
use Rattle.tf_session.specs.declared.command.Command.TheVariants.{Fix}
use Rattle.tf_session.specs.declared.command.Done.{Done}
use Rattle.tf_session.specs.declared.fault.RunFault.{RunFault}
use Rattle.tf_session.specs.Records.{DoesStep}
use Rattle.tf_session.specs.Session.{SessionContents}
use Rattle.tf_cli.specs.declared.outcome.FileOutcome.{FileOutcome}
use Rattle.tf_program.specs.Answers.{IsOutcomeOf, NotFixed}

pub no_lines : (rules : RuleSet) (old : SessionContents) (d : Done) (new : SessionContents) → DoesStep (Fix rules) old d new
    → NotFixed rules old RunFault.Memory
no_lines rules old d new does = inr (refl, d, new, does)

-- what a count says of a file
pub outcome_is : (file_outcome : FileOutcome) (count : ℕ) → (count ≡ 0 → file_outcome ≡ FileOutcome.Nothing)
    → (0 < count → file_outcome ≡ FileOutcome.Issue) → IsOutcomeOf file_outcome count
outcome_is file_outcome zero none some = subst (λ (m : FileOutcome). IsOutcomeOf m zero) (sym (none refl)) refl
outcome_is file_outcome (suc n) none some =
    let more : 0 < suc n = omega arith in
    subst (λ (m : FileOutcome). IsOutcomeOf m (suc n)) (sym (some more)) more
