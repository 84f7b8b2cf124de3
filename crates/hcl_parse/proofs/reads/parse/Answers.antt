use Rattle.hcl_parse.proofs.Roots.{reads}
use Rattle.hcl_parse.proofs.reads.parse.Goals as goal

pub returns : goal.returns
returns c = reads _ c.file.result c.file.new.at c.file.ensures
