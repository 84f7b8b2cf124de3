use Rattle.tf_session.proofs.TakeLaws.{journal_is_one_again}
use Rattle.tf_session.proofs.laws.journal_squashes_to_one_after_takes.Goals as goal

pub returns : goal.returns
returns c = journal_is_one_again c.transformed_lengths_match.ensures c.composable_lists_squash.ensures c.squash_all_is_unique.ensures
