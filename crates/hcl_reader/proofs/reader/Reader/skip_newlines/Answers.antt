use Rattle.std.proofs.Common.{length}
use Rattle.hcl_reader.proofs.Separators.{in_line}
use Rattle.hcl_reader.proofs.reader.Reader.skip_newlines.Goals as goal

pub returns-then-is_in_line : goal.returns-then-is_in_line
returns-then-is_in_line c =
    let here = c.args.self.now in
    let comment = rw c.outside_brackets.ensures at c.is_in_line.ensures.comment c.if-is_in_line.true in
    let line = rw c.outside_brackets.ensures at c.is_in_line.ensures.line c.if-is_in_line.true in
    in_line here.tokens (length here.tokens) c.args.at.now comment line
