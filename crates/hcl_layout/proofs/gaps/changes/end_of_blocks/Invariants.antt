use Rattle.std.proofs.Common.{◌≤◌, ◌-◌, length}
use Rattle.hcl_layout.specs.Gaps.Inner.Stages.{AreUnchanged}
use Rattle.hcl_layout.proofs.gaps.changes.end_of_blocks.Given as goal

abbrev pub invariant-loop-at : goal.invariant-loop-at
invariant-loop-at l = record {
  later : l.from ≤ l.at;
  within : l.at ≤ length l.scanned.pairs;
  stay : AreUnchanged l.scanned.pairs l.gaps l.from l.at;
}

abbrev pub decreases-loop-at : goal.decreases-loop-at
decreases-loop-at l = length l.scanned.pairs - l.at
