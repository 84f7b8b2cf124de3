use Rattle.tf_session.proofs.RevertRestores.{command_is_reverted}
use Rattle.tf_session.proofs.journal_laws.revert_restores_text_and_journal.Goals as goal

pub returns : goal.returns
returns c = command_is_reverted c.text_is_unambiguous.ensures
