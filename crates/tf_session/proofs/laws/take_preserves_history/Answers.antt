use Rattle.tf_session.proofs.TakeLaws.{take_leaves}
use Rattle.tf_session.proofs.laws.take_preserves_history.Goals as goal

pub returns : goal.returns
returns c = take_leaves c.move_to_end_is_unique.ensures c.apply_is_deterministic.ensures
