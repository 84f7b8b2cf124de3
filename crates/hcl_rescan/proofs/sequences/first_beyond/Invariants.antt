use Rattle.std.proofs.Common.{◌-◌, ◌≤◌, length}
use Rattle.hcl_rescan.proofs.sequences.first_beyond.Given as goal

abbrev pub invariant-loop-low : goal.invariant-loop-low
invariant-loop-low l = record {
  begun : l.from ≤ l.low;
  ordered : l.low ≤ l.high;
  within : l.high ≤ length l.tokens;
}

abbrev pub decreases-loop-low : goal.decreases-loop-low
decreases-loop-low l = l.high - l.low
