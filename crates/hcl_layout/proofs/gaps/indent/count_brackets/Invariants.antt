use Rattle.std.proofs.Common.{◌≡◌, ◌+◌, ◌*◌, ◌≤◌, slice_range}
use Rattle.hcl_layout.specs.Gaps.Indent.{openings, closings}
use Rattle.hcl_layout.specs.declared.gaps.indent.TheConstants.{CLOSING}
use Rattle.hcl_layout.proofs.gaps.indent.count_brackets.Given as goal

abbrev pub invariant-loop-i : goal.invariant-loop-i
invariant-loop-i l = record {
  all : l.brackets ≡ openings (slice_range l.scanned.pairs l.from l.i) + CLOSING * closings (slice_range l.scanned.pairs l.from l.i);
  few_opened : openings (slice_range l.scanned.pairs l.from l.i) + l.from ≤ l.i;
  few_closed : closings (slice_range l.scanned.pairs l.from l.i) + l.from ≤ l.i;
}
