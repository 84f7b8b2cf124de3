use Rattle.std.proofs.Common.{◌≤◌}
use Rattle.hcl_layout.specs.Gaps.Inner.CodeViews.{LackCell}
use Rattle.hcl_layout.proofs.gaps.cell_starts.next_with_cell.Given as goal

abbrev pub invariant-loop-i : goal.invariant-loop-i
invariant-loop-i l = record {
  later : l.from ≤ l.i;
  lacking : LackCell l.cell l.spans l.from l.i;
}
