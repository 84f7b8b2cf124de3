use Rattle.std.proofs.Common.{◌∙◌}
use Rattle.hcl_token.proofs.LineLemmas.{last_line_found, last_line_missing, last_part}
use Rattle.hcl_token.proofs.line_column.last_line.Goals as goal

pub returns-in-Some : goal.returns-in-Some
returns-in-Some c = last_part c.args.piece.now c.in-Some.at ∙ last_line_found c.args.piece.now c.in-Some.at c.in-Some.ensures

pub returns-in-None : goal.returns-in-None
returns-in-None c = last_line_missing c.args.piece.now c.in-None.ensures
