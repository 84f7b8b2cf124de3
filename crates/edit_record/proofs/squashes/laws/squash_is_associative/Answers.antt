use Rattle.edit_record.proofs.SquashesLemmas.Groupings.{associates}
use Rattle.edit_record.proofs.squashes.laws.squash_is_associative.Goals as goal

pub returns : goal.returns
returns c = associates c.args.a.now c.args.b.now c.args.c.now
