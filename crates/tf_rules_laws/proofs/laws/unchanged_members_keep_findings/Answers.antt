use Rattle.tf_rules_laws.proofs.MembersKeep.{members_keep}
use Rattle.tf_rules_laws.proofs.laws.unchanged_members_keep_findings.Goals as goal

pub returns : goal.returns
returns c = members_keep
