use Rattle.tf_rules_laws.proofs.Determines.{tree_determined}
use Rattle.tf_rules_laws.proofs.laws.preorder_determines_tree.Goals as goal

pub returns : goal.returns
returns c = tree_determined
