use Rattle.tf_session.proofs.Invocations.{are_stack_run}
use Rattle.tf_session.proofs.journal_laws.invocations_are_stack_run.Goals as goal

pub returns : goal.returns
returns c = are_stack_run
