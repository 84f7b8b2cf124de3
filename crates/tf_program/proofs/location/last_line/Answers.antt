use Rattle.std.proofs.Common.{◌∙◌}
use Rattle.hcl_token.proofs.LineLemmas.{last_line_found, last_line_missing, last_part}
use Rattle.tf_program.proofs.location.last_line.Goals as goal

pub returns-in-Some : goal.returns-in-Some
returns-in-Some c = last_part c.args.text.now c.in-Some.at ∙ last_line_found c.args.text.now c.in-Some.at c.in-Some.ensures

pub returns-in-None : goal.returns-in-None
returns-in-None c = last_line_missing c.args.text.now c.in-None.ensures
