use Rattle.tf_session.proofs.Invocations.{are_history_run}
use Rattle.tf_session.proofs.journal_laws.invocations_are_history_run.Goals as goal

pub returns : goal.returns
returns c = are_history_run c.text_is_unambiguous.ensures c.change_result_is_unique.ensures c.move_to_end_is_unique.ensures c.transformed_lengths_match.ensures
