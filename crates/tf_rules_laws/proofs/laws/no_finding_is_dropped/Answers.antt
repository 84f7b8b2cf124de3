use Rattle.tf_rules_laws.proofs.NothingDropped.{none_dropped}
use Rattle.tf_rules_laws.proofs.laws.no_finding_is_dropped.Goals as goal

pub returns : goal.returns
returns c = none_dropped c.preorder_is_unique.ensures
