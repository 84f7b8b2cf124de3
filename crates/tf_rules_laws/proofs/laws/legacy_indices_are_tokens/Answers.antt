use Rattle.tf_rules_laws.proofs.LegacyIndices.{legacy_indices}
use Rattle.tf_rules_laws.proofs.laws.legacy_indices_are_tokens.Goals as goal

pub returns : goal.returns
returns c = legacy_indices c.preorder_is_unique.ensures
