use Rattle.std.proofs.Common.{length}
use Rattle.edit_record.specs.Swaps.Inner.RelativeEnds.{ends_of}
use Rattle.edit_record.proofs.SwapsLemmas.RelativeEnds.BinarySearch.{Seeking}
use Rattle.edit_record.proofs.swaps.relative_ends.end_of.Given as goal

abbrev pub invariant-halves : goal.invariant-halves
invariant-halves l = Seeking l.number (ends_of l.run) l.left l.i l.last

abbrev pub decreases-halves : goal.decreases-halves
decreases-halves l = length l.left
