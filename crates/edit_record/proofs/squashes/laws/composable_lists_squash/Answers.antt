use Rattle.edit_record.proofs.SquashesLemmas.Existence.{followers_squash}
use Rattle.edit_record.proofs.squashes.laws.composable_lists_squash.Goals as goal

pub returns : goal.returns
returns c = followers_squash
