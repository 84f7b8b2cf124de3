use Rattle.std.proofs.Common.{◌≡◌, length, sym, subst, ◌∙◌, arith}
use Rattle.hcl_layout.specs.Gaps.Inner.CodeViews.{LackCell}
use Rattle.hcl_layout.proofs.GapsLemmas.LineStarts.{lack_more, can_have}
use Rattle.hcl_layout.proofs.gaps.cell_starts.next_with_cell.Goals as goal

pub loop-i-init : goal.loop-i-init
loop-i-init c = record {
  later = omega arith;
  lacking = λ k line later before is. absurd (omega arith);
}

pub loop-i-preserved : goal.loop-i-preserved
loop-i-preserved c = record {
  later = omega (arith, c.loop-i.invariant.later);
  lacking = lack_more c.args.cell c.args.spans.now c.args.from c.loop-i.i (omega (arith, c.loop-i-test.true)) (sym c.can_have_cell.ensures ∙ c.if-can_have_cell.false) c.loop-i.invariant.lacking;
}

pub returns-clause-lacking : goal.returns-clause-lacking
returns-clause-lacking c =
    let top = c.loop-i.auto.i-end c.requires in
    let end : c.loop-i.i ≡ length c.args.spans.now = omega (arith, top, c.loop-i-test.false) in
    subst (LackCell c.args.cell c.args.spans.now c.args.from) end c.loop-i.invariant.lacking

pub returns-then-can_have_cell-clause-found : goal.returns-then-can_have_cell-clause-found
returns-then-can_have_cell-clause-found c = λ less. can_have c.args.cell c.args.spans.now c.loop-i.i (omega (arith, c.loop-i-test.true)) (sym c.can_have_cell.ensures ∙ c.if-can_have_cell.true)

pub returns-clause-found : goal.returns-clause-found
returns-clause-found c = λ less. absurd (omega (arith, less))
