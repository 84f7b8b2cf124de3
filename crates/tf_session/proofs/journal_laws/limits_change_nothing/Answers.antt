use Rattle.tf_session.specs.Layers.{HistoryStep}
use Rattle.tf_session.specs.Machine.{StackStep}
use Rattle.tf_session.proofs.Invocations.{limits_change_nothing}
use Rattle.tf_session.proofs.journal_laws.limits_change_nothing.Goals as goal

pub returns-clause-stack : goal.returns-clause-stack
returns-clause-stack c = limits_change_nothing StackStep

pub returns-clause-layers : goal.returns-clause-layers
returns-clause-layers c = limits_change_nothing HistoryStep
