use Rattle.std.proofs.Common.{arith, ap, ◌∙◌, Some}
use Rattle.hcl_layout.specs.Gaps.Inner.Stages.{MAX_WIDTH}
use Rattle.hcl_layout.proofs.GapsLemmas.CellCode.{no_start, some_start, start_in_bounds}
use Rattle.hcl_layout.proofs.gaps.cells.cell_start.Goals as goal

pub returns-in-None-clause-width : goal.returns-in-None-clause-width
returns-in-None-clause-width c = (no_start c.args.cell c.args.gaps.now c.args.scanned.now.pairs c.args.at c.args.line.past c.args.frozen c.requires.same c.in-None.ensures.cell).0

pub returns-in-None-clause-token : goal.returns-in-None-clause-token
returns-in-None-clause-token c = (no_start c.args.cell c.args.gaps.now c.args.scanned.now.pairs c.args.at c.args.line.past c.args.frozen c.requires.same c.in-None.ensures.cell).1

pub width-requires-clause-bounded : goal.width-requires-clause-bounded
width-requires-clause-bounded c =
    let h = start_in_bounds c.args.cell c.args.gaps.now c.args.scanned.now.pairs c.args.at c.args.line.past c.args.frozen c.in-Some.i MAX_WIDTH c.requires.same c.in-Some.ensures.cell c.in-Some.ensures.inside.0 c.in-Some.ensures.inside.1 c.requires.bounded in
    omega (arith, h)

pub returns-in-Some-clause-width : goal.returns-in-Some-clause-width
returns-in-Some-clause-width c =
    ap Some c.width.ensures
    ∙ (some_start c.args.cell c.args.gaps.now c.args.scanned.now.pairs c.args.at c.args.line.past c.args.frozen c.in-Some.i c.requires.same c.in-Some.ensures.cell c.in-Some.ensures.inside.0 c.in-Some.ensures.inside.1).0

pub returns-in-Some-clause-token : goal.returns-in-Some-clause-token
returns-in-Some-clause-token c =
    (some_start c.args.cell c.args.gaps.now c.args.scanned.now.pairs c.args.at c.args.line.past c.args.frozen c.in-Some.i c.requires.same c.in-Some.ensures.cell c.in-Some.ensures.inside.0 c.in-Some.ensures.inside.1).1
