-- The code's state, as the steps on lists have it.
use Rattle.edit_record.specs.declared.swaps.swap_state.SwapState.{SwapState}
use Rattle.edit_record.specs.Swaps.Inner.SwapState.{State}

abbrev pub state : SwapState → State
state s = record {
  old = s.old_at;
  mid = s.mid_at;
  other = s.other_at;
  us = s.seconds.items;
  vs = s.firsts.items;
}
