use Rattle.std.proofs.Common.{◌+◌, length}
use Rattle.edit_record.specs.Lists.Pieces.{removed_len, added_len}
use Rattle.edit_record.specs.Swaps.Inner.SwapStateView.{state}
use Rattle.edit_record.proofs.SwapsLemmas.SwapSteps.{Passed}
use Rattle.edit_record.proofs.swaps.swap_lists.first_meeting.Given as goal

abbrev pub invariant-edits : goal.invariant-edits
invariant-edits l = Passed l.first.old_len l.second.old_len (added_len l.second.entries) (removed_len l.second.entries) l.first.entries l.second.entries (state l.state) l.xs l.ys

abbrev pub decreases-edits : goal.decreases-edits
decreases-edits l = length l.xs + length l.ys
