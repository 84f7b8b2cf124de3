-- What the check tries anyway: with an answer here, a mutant is refused without a second search.
use Rattle.std.proofs.Common.{rules, arith}
use Rattle.std.proofs.lemmas.Grind.{common_steps}
use Rattle.edit_record.proofs.squashes.merge.Merge.finish_edit.Goals as goal

pub returns : goal.returns
returns c = first_of (search rules, grind (arith, common_steps))
