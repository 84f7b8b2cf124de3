use Rattle.std.proofs.Common.{ap}
use Rattle.tf_findings.proofs.WalkLemmas.{nowhere}
use Rattle.tf_rules.specs.Preorder.{option_children}
use Rattle.tf_findings.proofs.bodies.walk_optional_attribute.Goals as goal

pub returns-in-None : goal.returns-in-None
returns-in-None c = nowhere (ap option_children c.in-None.is)
