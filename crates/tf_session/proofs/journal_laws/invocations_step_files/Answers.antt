use Rattle.tf_session.proofs.OneInvocation.{invocations_step}
use Rattle.tf_session.proofs.journal_laws.invocations_step_files.Goals as goal

pub returns : goal.returns
returns c = invocations_step c.text_is_unambiguous.ensures c.change_result_is_unique.ensures
