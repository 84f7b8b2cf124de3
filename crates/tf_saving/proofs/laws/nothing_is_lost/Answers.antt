use Rattle.tf_saving.proofs.AllRuns.{nothing_is_lost}
use Rattle.tf_saving.proofs.laws.nothing_is_lost.Goals as goal

pub returns-clause-interrupted : goal.returns-clause-interrupted
returns-clause-interrupted c = nothing_is_lost
