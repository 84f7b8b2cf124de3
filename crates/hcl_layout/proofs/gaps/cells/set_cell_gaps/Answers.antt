use Rattle.std.proofs.Common.{refl, arith, ap}
use Rattle.hcl_layout.specs.Gaps.Inner.CodeViews.{widths_of, tokens_in}
use Rattle.hcl_layout.specs.Gaps.Inner.Stages.{set_cell_gaps, cell_gaps_from_width, MAX_WIDTH}
use Rattle.hcl_layout.proofs.GapsLemmas.CellGaps.{greatest_within}
use Rattle.hcl_layout.proofs.gaps.cells.set_cell_gaps.Goals as goal

pub loop-i-init : goal.loop-i-init
loop-i-init c = record {
  rest = ap (λ v. set_cell_gaps c.args.gaps.now.items (tokens_in c.args.starts.now) (cell_gaps_from_width v (widths_of c.args.starts.now))) c.greatest-run_width.ensures;
  small = omega (arith, greatest_within MAX_WIDTH (widths_of c.args.starts.now) c.requires.bounded, c.greatest-run_width.ensures);
  same = refl;
}
