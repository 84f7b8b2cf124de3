use Rattle.std.proofs.Common.{◌≤◌}
use Rattle.hcl_rescan.proofs.line_starts.last_line_end.Given as goal

abbrev pub invariant-loop-left : goal.invariant-loop-left
invariant-loop-left l = l.left ≤ l.past

abbrev pub decreases-loop-left : goal.decreases-loop-left
decreases-loop-left l = l.left
