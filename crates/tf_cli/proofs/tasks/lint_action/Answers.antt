use Rattle.std.proofs.Common.{refl}
use Rattle.tf_cli.proofs.tasks.lint_action.Goals as goal

pub returns-clause-action : goal.returns-clause-action
returns-clause-action c = (c.in_ok-rules.rules, c.in_ok-rules.ensures.chosen, refl)
