use Rattle.std.proofs.Common.{◌≡◌, ◌≤◌, [], length, slice_range}
use Rattle.hcl_scan.proofs.PairLemmas.{modes_after_pairs}
use Rattle.hcl_rescan.proofs.line_starts.next_line_start.Given as goal

abbrev pub invariant-loop-i : goal.invariant-loop-i
invariant-loop-i l = record {
  depth : l.depth ≡ length (modes_after_pairs [] (slice_range l.old.pairs l.fn.from.index l.i));
  few : l.depth ≤ l.i;
}
