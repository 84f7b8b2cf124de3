use Rattle.tf_rules_laws.proofs.LegacyTokens.{legacy_are_all}
use Rattle.tf_rules_laws.proofs.laws.legacy_indices_are_all.Goals as goal

pub returns : goal.returns
returns c = legacy_are_all c.preorder_is_unique.ensures
