use Rattle.std.proofs.Common.{◌≡◌, ◌≤◌, ◌-◌, false, length}
use Rattle.hcl_layout.specs.Gaps.Inner.CodeViews.{line_start, is_start_frozen}
use Rattle.hcl_layout.proofs.GapsLemmas.Repeats.{KeptSoFar}
use Rattle.hcl_layout.proofs.gaps.cell_starts.cell_starts.Given as goal

abbrev pub invariant-loop-i : goal.invariant-loop-i
invariant-loop-i l = record {
  within : l.i ≤ length l.spans;
  at : l.at ≡ line_start l.first l.spans l.i;
  frozen : l.frozen ≡ is_start_frozen false l.spans l.i;
  starts : KeptSoFar l.cell l.gaps l.scanned.pairs l.first (line_start l.first l.spans l.i) (is_start_frozen false l.spans l.i) l.in_run l.starts.items;
}

abbrev pub decreases-loop-i : goal.decreases-loop-i
decreases-loop-i l = length l.spans - l.i
