use Rattle.std.proofs.Common.{length}
use Rattle.edit_record.proofs.swaps.relative_ends.+shift_from.Given as goal

abbrev pub decreases-shift_from : goal.decreases-shift_from
decreases-shift_from l = length l.run.now
