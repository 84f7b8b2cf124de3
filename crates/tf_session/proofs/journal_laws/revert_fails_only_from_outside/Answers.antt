use Rattle.tf_session.proofs.RevertSucceeds.{command_revert_succeeds}
use Rattle.tf_session.proofs.journal_laws.revert_fails_only_from_outside.Goals as goal

pub returns : goal.returns
returns c = command_revert_succeeds c.change_result_is_unique.ensures c.text_is_unambiguous.ensures
