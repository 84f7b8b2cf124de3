-- --check is given or not.
use Rattle.std.proofs.Common.{Bool, true, false, refl, subst}
use Rattle.tf_cli.specs.Tasks.{IsGiven}
use Rattle.tf_cli.specs.Inner.ClapValues.{rows_in}
use Rattle.tf_cli.specs.declared.options.Flag.{Flag}
use Rattle.tf_cli.proofs.tasks.fmt_action.Goals as goal

pub returns-then-is_given : goal.returns-then-is_given
returns-then-is_given c =
    (true, subst (λ (given : Bool). IsGiven (rows_in c.args.matches.now) Flag.Check given) c.if-is_given.true c.is_given.ensures, refl)

pub returns : goal.returns
returns c =
    (false, subst (λ (given : Bool). IsGiven (rows_in c.args.matches.now) Flag.Check given) c.if-is_given.false c.is_given.ensures, refl)
