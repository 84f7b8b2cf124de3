use Rattle.std.proofs.Common.{◌≤◌}
use Rattle.hcl_layout.specs.Gaps.Inner.Stages.{AreUnchanged}
use Rattle.hcl_layout.proofs.gaps.changes.first_change.Given as goal

abbrev pub invariant-loop-i : goal.invariant-loop-i
invariant-loop-i l = record {
  later : l.from ≤ l.i;
  stay : AreUnchanged l.scanned.pairs l.gaps l.from l.i;
}
