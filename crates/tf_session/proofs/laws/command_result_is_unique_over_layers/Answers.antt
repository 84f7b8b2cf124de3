use Rattle.tf_session.proofs.LayersLaws.{one_answer_over_layers}
use Rattle.tf_session.proofs.laws.command_result_is_unique_over_layers.Goals as goal

pub returns : goal.returns
returns c = one_answer_over_layers c.one_tokenization.ensures c.no_tokenization_with_fault.ensures c.one_fault.ensures c.one_layout.ensures c.fix_is_unique.ensures c.swap_is_unique.ensures c.move_to_end_is_unique.ensures c.apply_is_deterministic.ensures
