use Rattle.tf_findings.proofs.TreeLaws.{collected}
use Rattle.tf_findings.proofs.bodies.tree_findings.Goals as goal

pub returns : goal.returns
returns c = collected c.new-found.ensures.items c.in_ok-walk_members.ensures
