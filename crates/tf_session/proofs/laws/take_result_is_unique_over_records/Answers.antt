use Rattle.tf_session.proofs.AnyTake.{take_is_unique_over_records}
use Rattle.tf_session.proofs.laws.take_result_is_unique_over_records.Goals as goal

pub returns : goal.returns
returns c = take_is_unique_over_records c.swap_is_unique.ensures c.move_to_end_is_unique.ensures c.change_result_is_unique.ensures
