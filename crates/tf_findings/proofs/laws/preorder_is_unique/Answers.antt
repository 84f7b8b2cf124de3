use Rattle.tf_findings.proofs.TreeLaws.{one_tree}
use Rattle.tf_findings.proofs.laws.preorder_is_unique.Goals as goal

pub returns : goal.returns
returns c = λ ns xs ys a b. one_tree a b
