use Rattle.std.proofs.Common.{List, false, sym, take, subst, ◌∙◌, arith}
use Rattle.std.proofs.lemmas.List.{take_all}
use Rattle.hcl_layout.specs.declared.gaps.lines.LineSpan.{LineSpan}
use Rattle.hcl_layout.specs.Gaps.Inner.LineSpans.{add_span}
use Rattle.hcl_layout.proofs.GapsLemmas.LineSpans.{SpansTo, spans_add, spans_whole}
use Rattle.hcl_layout.proofs.GapsLemmas.LinePass.{left_ends}
use Rattle.hcl_layout.proofs.gaps.base_gaps.fill_base_gaps.Goals as goal

pub loop-at-preserved : goal.loop-at-preserved
loop-at-preserved c =
    let ps = c.args.scanned.now.pairs in
    let line = c.in_ok-line.line in
    let old = c.loop-at.invariant in
    let split = c.in_ok-line.ensures.line.split in
    let span = c.span_of_line-span.result in
    record {
      left = c.in_ok-line.ensures.gaps ∙ old.left;
      spans = subst (λ (spans : List LineSpan). SpansTo ps c.args.first false spans line.past line.next_frozen) (sym c.in_ok-add_span.ensures)
          (subst (λ to. SpansTo ps c.args.first false (add_span c.loop-at.spans.items span) to line.next_frozen) c.span_of_line-span.ensures.past
          (subst (λ f. SpansTo ps c.args.first false (add_span c.loop-at.spans.items span) span.past f) c.span_of_line-span.ensures.next_frozen
          (spans_add ps c.args.first false c.loop-at.spans.items c.loop-at.at c.loop-at.frozen span old.spans (c.span_of_line-span.ensures.span c.loop-at.frozen c.in_ok-line.ensures.line))));
      not_before_first = omega (arith, split.more, old.not_before_first);
      within = split.within;
      same = c.in_ok-line.ensures.same ∙ old.same;
      small = c.in_ok-line.ensures.small;
    }

pub returns-clause-spans : goal.returns-clause-spans
returns-clause-spans c =
    spans_whole c.args.scanned.now.pairs c.args.first false c.loop-at.spans.items c.loop-at.at c.loop-at.frozen c.loop-at.invariant.spans
    (omega (arith, c.loop-at-test.false, c.len.ensures.value, c.loop-at.invariant.within))

pub returns-clause-gaps : goal.returns-clause-gaps
returns-clause-gaps c =
    sym (take_all c.loop-at.at c.loop-at.gaps.items (omega (arith, c.loop-at.invariant.same, c.loop-at-test.false, c.len.ensures.value)))
    ∙ sym (left_ends c.args.scanned.now.pairs c.args.first c.loop-at.at c.loop-at.frozen (take c.loop-at.at c.loop-at.gaps.items) c.loop-at.surplus.items (omega (arith, c.loop-at-test.false, c.len.ensures.value)))
    ∙ c.loop-at.invariant.left

pub span_of_line-span-requires-clause-ordered : goal.span_of_line-span-requires-clause-ordered
span_of_line-span-requires-clause-ordered c = c.in_ok-line.ensures.line.split.more

pub span_of_line-span-requires-clause-within : goal.span_of_line-span-requires-clause-within
span_of_line-span-requires-clause-within c = c.in_ok-line.ensures.line.split.within
