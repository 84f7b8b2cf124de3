use Rattle.tf_session.proofs.LastTake.{last_take_is_revert}
use Rattle.tf_session.proofs.laws.last_take_is_revert.Goals as goal

pub returns : goal.returns
returns c = last_take_is_revert
