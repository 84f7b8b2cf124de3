use Rattle.tf_rules_laws.proofs.Roles.{roles_are_right}
use Rattle.tf_rules_laws.proofs.laws.roles_are_right.Goals as goal

pub returns : goal.returns
returns c = roles_are_right
