use Rattle.std.proofs.Common.{◌≡◌, max, drop}
use Rattle.hcl_layout.specs.Gaps.Inner.Stages.{greatest}
use Rattle.hcl_layout.specs.Gaps.Inner.CodeViews.{widths_of}
use Rattle.hcl_layout.proofs.gaps.cells.greatest.Given as goal

abbrev pub invariant-loop-start : goal.invariant-loop-start
invariant-loop-start l = max l.greatest (greatest (widths_of (drop l.start-index l.starts))) ≡ greatest (widths_of l.starts)
