use Rattle.hcl_parse.proofs.Roots.{ends}
use Rattle.hcl_parse.proofs.reads.check.Goals as goal

pub returns : goal.returns
returns c = ends (c.both_end_alike.ensures.file c.args.reader.now.tokens c.args.reader.now.depth c.args.at.now) c.file.result c.file.new.at c.file.ensures
