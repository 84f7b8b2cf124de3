use Rattle.tf_rules_laws.proofs.OneRule as one_rule
use Rattle.tf_rules_laws.proofs.laws.findings_match_their_rule.Goals as goal

pub returns : goal.returns
returns c = one_rule.one_origin
