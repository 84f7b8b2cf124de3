use Rattle.std.proofs.Common.{◌≡◌, length}
use Rattle.edit_record.specs.Swaps.Inner.RelativeEnds.{ends_of}
use Rattle.edit_record.proofs.SwapsLemmas.RelativeEnds.EndsOfList.{Built}
use Rattle.edit_record.proofs.swaps.moving_edits.ends.Given as goal

abbrev pub invariant-loop-i : goal.invariant-loop-i
invariant-loop-i l = Built l.fn.edits.old_len l.fn.edits.entries l.i l.old (ends_of l.ends.items) × (length l.ends.items ≡ length l.fn.edits.entries)
