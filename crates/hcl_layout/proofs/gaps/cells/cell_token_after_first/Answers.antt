use Rattle.std.proofs.Common.{◌+◌, refl, sym, ◌∙◌}
use Rattle.hcl_layout.proofs.GapsLemmas.CellCode.{found_from_next, found_here, found_none, found_begins}
use Rattle.hcl_layout.proofs.gaps.cells.cell_token_after_first.Goals as goal

pub loop-i-preserved : goal.loop-i-preserved
loop-i-preserved c =
    sym (found_from_next c.args.cell c.args.scanned.now.pairs c.loop-i.i c.args.past c.kind.result c.loop-i-test.true c.requires.within c.kind.ensures (sym c.starts_cell.ensures ∙ c.if-starts_cell.false))
    ∙ c.loop-i.invariant

pub returns-then-starts_cell-clause-found : goal.returns-then-starts_cell-clause-found
returns-then-starts_cell-clause-found c =
    sym (found_here c.args.cell c.args.scanned.now.pairs c.loop-i.i c.args.past c.kind.result c.loop-i-test.true c.requires.within c.kind.ensures (sym c.starts_cell.ensures ∙ c.if-starts_cell.true))
    ∙ (c.loop-i.invariant ∙ found_begins c.args.cell c.args.scanned.now.pairs c.args.at c.args.past (c.args.at + 1) c.requires.ordered c.requires.within refl)

pub returns-clause-found : goal.returns-clause-found
returns-clause-found c =
    sym (found_none c.args.cell c.args.scanned.now.pairs c.loop-i.i c.args.past c.loop-i-test.false)
    ∙ (c.loop-i.invariant ∙ found_begins c.args.cell c.args.scanned.now.pairs c.args.at c.args.past (c.args.at + 1) c.requires.ordered c.requires.within refl)
