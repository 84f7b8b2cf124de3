-- None that is held may be read too early, or none is held any more.
use Rattle.tf_program.proofs.Holding.{none_done}
use Rattle.tf_program.proofs.Keeping.{none_apart}
use Rattle.tf_program.proofs.batch.Batch.admit.Goals as goal

pub returns-in-Some-clause-step : goal.returns-in-Some-clause-step
returns-in-Some-clause-step g c = none_done _ _ _ c.requires.waiting

pub returns-clause-apart : goal.returns-clause-apart
returns-clause-apart g c = none_apart _ _ _ _ c.finish.ensures.none
