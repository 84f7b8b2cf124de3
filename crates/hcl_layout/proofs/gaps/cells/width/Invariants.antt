use Rattle.std.proofs.Common.{◌≡◌, ◌+◌, slice_range}
use Rattle.hcl_layout.specs.Gaps.Cells.{width}
use Rattle.hcl_layout.specs.Gaps.Inner.Stages.{with_gaps}
use Rattle.hcl_layout.proofs.gaps.cells.width.Given as goal

abbrev pub invariant-loop-i : goal.invariant-loop-i
invariant-loop-i l =
    l.width + width (slice_range (with_gaps l.gaps l.scanned.pairs) l.i l.to) ≡ width (slice_range (with_gaps l.gaps l.scanned.pairs) l.at l.to)
