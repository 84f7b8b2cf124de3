use Rattle.edit_record.proofs.SquashesLemmas.Uniqueness.{determined}
use Rattle.edit_record.proofs.squashes.laws.squash_is_unique.Goals as goal

pub returns : goal.returns
returns c = determined c.args.first.now c.args.second.now
