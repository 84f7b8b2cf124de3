use Rattle.tf_session.proofs.JournalOne.{journal_is_one}
use Rattle.tf_session.proofs.laws.journal_squashes_to_one.Goals as goal

pub returns : goal.returns
returns c = journal_is_one c.transformed_lengths_match.ensures c.composable_lists_squash.ensures c.squash_all_is_unique.ensures
