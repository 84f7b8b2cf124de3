use Rattle.std.proofs.Common.{Some}
use Rattle.edit_record.specs.Swaps.Inner.MovingEditsView.{edits_now, IsWellFormed}
use Rattle.edit_record.proofs.SwapsLemmas.MovingToEnd.{MovedUpTo}
use Rattle.edit_record.proofs.swaps.reorder.move_to_end.Given as goal

abbrev pub invariant-loop-i : goal.invariant-loop-i
invariant-loop-i l = MovedUpTo l.fn.first l.fn.records l.reordered.items (Some l.moved) l.i

abbrev pub invariant-loop-i-2 : goal.invariant-loop-i-2
invariant-loop-i-2 l = MovedUpTo l.fn.first l.fn.records l.reordered.items (Some (edits_now l.moving)) l.i × IsWellFormed l.moving
