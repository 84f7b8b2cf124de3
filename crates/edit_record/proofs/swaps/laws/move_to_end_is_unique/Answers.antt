use Rattle.edit_record.proofs.SwapsLemmas.LawsOfSwap.{takes_one}
use Rattle.edit_record.proofs.swaps.laws.move_to_end_is_unique.Goals as goal

pub returns : goal.returns
returns c = takes_one
