use Rattle.std.proofs.Common.{◌≡◌, ◌≤◌, [], length, slice_range}
use Rattle.hcl_rescan.specs.Inner.WholeLines.{IsLineStart, IsLineRange}
use Rattle.hcl_scan.proofs.PairLemmas.{modes_after_pairs}
use Rattle.hcl_rescan.proofs.line_starts.last_line_start_by_depth.Given as goal

abbrev pub invariant-loop-i : goal.invariant-loop-i
invariant-loop-i l = record {
  line_start : IsLineStart l.old l.to.index l.to.at;
  lines : IsLineRange l.old.pairs l.fn.from.index l.to.index;
  depth : l.depth ≡ length (modes_after_pairs [] (slice_range l.old.pairs l.fn.from.index l.i));
  few : l.depth ≤ l.i;
}
