use Rattle.tf_rules_laws.proofs.Determines.{none_forgotten}
use Rattle.tf_rules_laws.proofs.laws.children_are_complete.Goals as goal

pub returns : goal.returns
returns c = none_forgotten
