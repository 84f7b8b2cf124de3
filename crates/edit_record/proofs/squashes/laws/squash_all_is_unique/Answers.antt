use Rattle.edit_record.proofs.SquashesLemmas.Groupings.{squash_as_one}
use Rattle.edit_record.proofs.squashes.laws.squash_all_is_unique.Goals as goal

pub returns : goal.returns
returns c = squash_as_one
