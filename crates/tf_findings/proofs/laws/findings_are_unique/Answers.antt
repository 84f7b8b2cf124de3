use Rattle.tf_findings.proofs.FindingsAreUnique.{findings_are_one}
use Rattle.tf_findings.proofs.laws.findings_are_unique.Goals as goal

pub returns : goal.returns
returns c = λ rules pairs members xs ys a b. findings_are_one c.preorder_is_unique.ensures a b
