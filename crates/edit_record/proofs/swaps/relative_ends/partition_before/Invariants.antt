use Rattle.std.proofs.Common.{length}
use Rattle.edit_record.specs.Swaps.Inner.RelativeEnds.{ends_of}
use Rattle.edit_record.proofs.SwapsLemmas.RelativeEnds.BinarySearch.{Searching}
use Rattle.edit_record.proofs.swaps.relative_ends.partition_before.Given as goal

abbrev pub invariant-halves : goal.invariant-halves
invariant-halves l = Searching l.at (ends_of l.run) l.left l.count l.last l.next

abbrev pub decreases-halves : goal.decreases-halves
decreases-halves l = length l.left
