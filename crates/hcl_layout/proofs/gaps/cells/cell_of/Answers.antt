use Rattle.std.proofs.Common.{rules, ℕ, refl, slice_range, Some, None, Option, cond, ◌||◌, sym, ap, ap₂, ◌∙◌}
use Rattle.hcl_layout.proofs.GapsLemmas.CellCode.{broken, counted_cell, none_found, frozen_none, broken_none}
use Rattle.hcl_layout.proofs.gaps.cells.cell_of.Goals as goal

pub returns-then-frozen-clause-cell : goal.returns-then-frozen-clause-cell
returns-then-frozen-clause-cell c = frozen_none c.args.cell c.args.scanned.now.pairs c.args.at c.args.line.past c.args.frozen c.if-frozen.true

pub returns-then-is_broken_by_comment-clause-cell : goal.returns-then-is_broken_by_comment-clause-cell
returns-then-is_broken_by_comment-clause-cell c = broken_none c.args.cell c.args.scanned.now.pairs c.args.at c.args.line.past c.args.frozen c.is_broken_by_comment.result c.is_broken_by_comment.ensures c.if-frozen.false c.if-is_broken_by_comment.true

pub returns-then-is_valid_cell-clause-cell : goal.returns-then-is_valid_cell-clause-cell
returns-then-is_valid_cell-clause-cell c =
    sym (ap {B = Option ℕ} (λ v. cond v (Some c.in_ok-i.i) None) (sym c.is_valid_cell.ensures ∙ c.if-is_valid_cell.true))
    ∙ counted_cell c.args.cell c.args.scanned.now.pairs c.args.at c.args.line.past c.args.frozen c.is_broken_by_comment.result c.in_ok-i.i c.is_broken_by_comment.ensures (ap₂ (λ x y. x || y) c.if-frozen.false c.if-is_broken_by_comment.false) c.in_ok-i.ensures.found

pub returns-clause-cell : goal.returns-clause-cell
returns-clause-cell c =
    sym (ap {B = Option ℕ} (λ v. cond v (Some c.in_ok-i.i) None) (sym c.is_valid_cell.ensures ∙ c.if-is_valid_cell.false))
    ∙ counted_cell c.args.cell c.args.scanned.now.pairs c.args.at c.args.line.past c.args.frozen c.is_broken_by_comment.result c.in_ok-i.i c.is_broken_by_comment.ensures (ap₂ (λ x y. x || y) c.if-frozen.false c.if-is_broken_by_comment.false) c.in_ok-i.ensures.found

pub is_broken_by_comment-requires-clause-flags : goal.is_broken_by_comment-requires-clause-flags
is_broken_by_comment-requires-clause-flags c = c.requires.flags c.if-frozen.false

pub is_valid_cell-requires-clause-flags : goal.is_valid_cell-requires-clause-flags
is_valid_cell-requires-clause-flags c = c.requires.flags c.if-frozen.false

pub returns-in_err-i-clause-cell : goal.returns-in_err-i-clause-cell
returns-in_err-i-clause-cell c =
    let none = none_found c.args.cell c.args.scanned.now.pairs c.args.at c.args.line.past c.args.frozen (broken (slice_range c.args.scanned.now.pairs c.args.at c.args.line.past)) refl c.if-frozen.false c.in_err-i.ensures.found in
    search (rules, none)
