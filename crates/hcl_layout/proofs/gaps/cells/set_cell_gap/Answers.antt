use Rattle.std.proofs.Common.{◌+◌, arith, sym, ap, ◌∙◌}
use Rattle.hcl_layout.specs.Gaps.Inner.CodeViews.{widths_of, tokens_in}
use Rattle.hcl_layout.specs.Gaps.Inner.Stages.{greatest, set_cell_gaps, cell_gaps_from_width, MAX_WIDTH}
use Rattle.std.specs.Prelude.{slice_set, drop}
use Rattle.hcl_layout.proofs.GapsLemmas.CellCode.{cell_gap_some, cell_gap_none, inside_at, top_within}
use Rattle.hcl_layout.proofs.gaps.cells.set_cell_gap.Goals as goal

pub index_mut-requires : goal.index_mut-requires
index_mut-requires c = let h = inside_at _ c.args.starts.now c.args.i c.in-Some.start c.requires.inside (sym c.in-Some.ensures) in omega (arith, h)

pub returns-in-Some-clause-filled : goal.returns-in-Some-clause-filled
returns-in-Some-clause-filled c =
    ap (λ v. set_cell_gaps (slice_set c.args.gaps.now.items c.in-Some.start.token (1 + v)) (tokens_in (drop (c.args.i + 1) c.args.starts.now)) (cell_gaps_from_width c.args.run_width (widths_of (drop (c.args.i + 1) c.args.starts.now)))) c.saturating_sub.ensures
    ∙ cell_gap_some c.args.gaps.now.items c.args.starts.now c.args.i c.args.run_width c.in-Some.start (sym c.in-Some.ensures)

pub returns-in-None-clause-filled : goal.returns-in-None-clause-filled
returns-in-None-clause-filled c =
    ap (λ v. set_cell_gaps c.args.gaps.now.items (tokens_in (drop (c.args.i + 1) c.args.starts.now)) (cell_gaps_from_width v (widths_of (drop (c.args.i + 1) c.args.starts.now)))) (c.greatest.ensures ∙ ap (λ ps. greatest (widths_of ps)) c.starts_from.ensures)
    ∙ cell_gap_none c.args.gaps.now.items c.args.starts.now c.args.i c.args.run_width (sym c.in-None.ensures)

pub returns-in-None-clause-run_width : goal.returns-in-None-clause-run_width
returns-in-None-clause-run_width c =
    omega (arith, top_within MAX_WIDTH (c.args.i + 1) c.args.starts.now c.requires.bounded, c.greatest.ensures ∙ ap (λ ps. greatest (widths_of ps)) c.starts_from.ensures)
