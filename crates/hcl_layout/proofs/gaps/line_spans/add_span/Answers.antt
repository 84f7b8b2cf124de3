use Rattle.std.proofs.Common.{◌≡◌, ◌-◌, ◌&&◌, Bool, true, false, List, sym, ap, ◌∙◌, arith}
use Rattle.hcl_layout.specs.Gaps.Inner.LineSpans.{can_be_joined, can_last_be_joined}
use Rattle.hcl_layout.specs.declared.gaps.lines.LineSpan.{LineSpan}
use Rattle.hcl_layout.proofs.GapsLemmas.LineSpans.{some_last, add_joined, add_pushed}
use Rattle.hcl_layout.proofs.gaps.line_spans.add_span.Goals as goal

-- the test, over the spans that were lent
joins : (lent spans : List LineSpan) (span : LineSpan) (test answer : Bool) → lent ≡ spans
    → test ≡ (can_be_joined span && can_last_be_joined lent) → test ≡ answer
    → (can_be_joined span && can_last_be_joined spans) ≡ answer
joins lent spans span test answer same is e =
    ap (λ (x : List LineSpan). can_be_joined span && can_last_be_joined x) (sym same) ∙ sym is ∙ e

pub overflow_sub-end : goal.overflow_sub-end
overflow_sub-end c =
    omega (arith, some_last c.args.spans.now.items (can_be_joined c.args.span) (joins c.deref.result.now c.args.spans.now.items c.args.span c.joins_last.result true c.deref.ensures.value c.joins_last.ensures c.if-joins_last.true), c.len-end.ensures)

pub returns-then-joins_last : goal.returns-then-joins_last
returns-then-joins_last c =
    let joined = joins c.deref.result.now c.args.spans.now.items c.args.span c.joins_last.result true c.deref.ensures.value c.joins_last.ensures c.if-joins_last.true in
    add_joined c.args.spans.now.items (c.len-end.result - 1) c.args.span (omega (arith, some_last c.args.spans.now.items (can_be_joined c.args.span) joined, c.len-end.ensures)) joined

pub returns : goal.returns
returns c = c.in_ok-push.ensures.items ∙ add_pushed c.args.spans.now.items c.args.span (joins c.deref.result.now c.args.spans.now.items c.args.span c.joins_last.result false c.deref.ensures.value c.joins_last.ensures c.if-joins_last.false)
