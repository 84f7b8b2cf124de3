use Rattle.std.proofs.Common.{◌≡◌, ◌≤◌, length, drop}
use Rattle.hcl_layout.specs.Gaps.Inner.CodeViews.{widths_of, tokens_in}
use Rattle.hcl_layout.specs.Gaps.Inner.Stages.{greatest, set_cell_gaps, cell_gaps_from_width, MAX_WIDTH}
use Rattle.hcl_layout.proofs.gaps.cells.set_cell_gaps.Given as goal

abbrev pub invariant-loop-i : goal.invariant-loop-i
invariant-loop-i l = record {
  rest : set_cell_gaps l.gaps.items (tokens_in (drop l.i l.starts)) (cell_gaps_from_width l.run_width (widths_of (drop l.i l.starts)))
      ≡ set_cell_gaps l.fn.gaps.items (tokens_in l.starts) (cell_gaps_from_width (greatest (widths_of l.starts)) (widths_of l.starts));
  small : l.run_width ≤ MAX_WIDTH;
  same : length l.gaps.items ≡ length l.fn.gaps.items;
}
