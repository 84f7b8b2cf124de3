use Rattle.tf_rules_laws.proofs.TreeNodes.{nodes_span}
use Rattle.tf_rules_laws.proofs.laws.nodes_span_their_tokens.Goals as goal

pub returns : goal.returns
returns c = nodes_span
