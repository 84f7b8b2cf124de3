use Rattle.edit_record.proofs.SwapsLemmas.LawsOfSwap.{one_swap}
use Rattle.edit_record.proofs.swaps.laws.swap_is_unique.Goals as goal

pub returns : goal.returns
returns c = one_swap
