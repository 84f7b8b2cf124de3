use Rattle.std.proofs.Common.{◌≡◌, ◌++◌, take, drop}
use Rattle.edit_record.specs.Swaps.Inner.RelativeEnds.{ends_of}
use Rattle.edit_record.specs.Swaps.Inner.EditEnds.{with_ends}
use Rattle.edit_record.proofs.swaps.moving_edits.set_places.Given as goal

abbrev pub invariant-loop-i : goal.invariant-loop-i
invariant-loop-i l = l.edits ≡ with_ends (take l.i l.initial.edits) (ends_of l.ends) ++ drop l.i l.initial.edits
