use Rattle.hcl_parse.proofs.Roots.{reads}
use Rattle.hcl_parse.proofs.reads.next_member.Goals as goal

pub returns : goal.returns
returns c = reads _ c.member.result c.member.new.at c.member.ensures
