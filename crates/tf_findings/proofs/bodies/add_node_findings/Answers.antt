use Rattle.std.proofs.Common.{sym, append-nil}
use Rattle.tf_rules.specs.Preorder.{member}
use Rattle.tf_findings.proofs.TreeLaws.{all_findings}
use Rattle.tf_findings.proofs.WalkLemmas.{whole, where_ok}
use Rattle.tf_findings.proofs.bodies.add_node_findings.Goals as goal

pub returns : goal.returns
returns c =
    where_ok c.walk_member.result (λ found. all_findings (whole (member c.args.x.now) (sym (append-nil c.args.found.now.items)) found)) c.walk_member.ensures
