-- Only --take is given, or neither; or only --list; or both.
use Rattle.std.proofs.Common.{ℕ, Bool, true, false, Option, None, refl, subst}
use Rattle.tf_cli.specs.Tasks.{IsGiven, IsTakenNumber}
use Rattle.tf_cli.specs.Inner.ClapValues.{rows_in}
use Rattle.tf_cli.specs.declared.options.Flag.{Flag}
use Rattle.tf_cli.proofs.tasks.revert_action.Goals as goal

pub returns-then-not-is_given-clause-action : goal.returns-then-not-is_given-clause-action
returns-then-not-is_given-clause-action c = (
  false,
  subst (λ (given : Bool). IsGiven (rows_in c.args.matches.now) Flag.List given) c.if-not-is_given.true c.is_given.ensures,
  c.taken_number-number.result,
  c.taken_number-number.ensures,
  refl,
)

pub returns-in-None-clause-action : goal.returns-in-None-clause-action
returns-in-None-clause-action c = (
  true,
  subst (λ (given : Bool). IsGiven (rows_in c.args.matches.now) Flag.List given) c.if-not-is_given.false c.is_given.ensures,
  None,
  subst (λ (number : Option ℕ). IsTakenNumber (rows_in c.args.matches.now) number) c.in-None.is c.taken_number-number.ensures,
  refl,
)
