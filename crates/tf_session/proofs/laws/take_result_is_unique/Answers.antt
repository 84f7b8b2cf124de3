use Rattle.tf_session.proofs.TakeIsUnique.{take_has_one_answer}
use Rattle.tf_session.proofs.laws.take_result_is_unique.Goals as goal

pub returns : goal.returns
returns c = take_has_one_answer c.swap_is_unique.ensures c.move_to_end_is_unique.ensures c.apply_is_deterministic.ensures
