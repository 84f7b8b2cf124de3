use Rattle.std.proofs.Common.{◌+◌, ◌<◌, ◌≤◌, length, get_or, false, refl, sym, ap, subst, arith}
use Rattle.hcl_layout.specs.declared.gaps.lines.LineSpan.{LineSpan}
use Rattle.hcl_layout.specs.Gaps.Inner.CodeViews.{is_start_frozen}
use Rattle.hcl_layout.proofs.GapsLemmas.LineSpans.{no_span}
use Rattle.hcl_layout.proofs.GapsLemmas.CellCode.{starts_bounded}
use Rattle.hcl_layout.proofs.GapsLemmas.Repeats.{KeptSoFar, kept_begins}
use Rattle.hcl_layout.proofs.GapsLemmas.LineStarts.{is_line, can_here, kept_here, kept_one, kept_passed, kept_same, kept_all, start_is, frozen_is, start_first, frozen_first}
use Rattle.hcl_layout.proofs.gaps.cell_starts.cell_starts.Goals.{then-i-next+in_ok-push_start, else-i-next+in_ok-push_start-2}
use Rattle.hcl_layout.proofs.gaps.cell_starts.cell_starts.Goals as goal

pub loop-i-init : goal.loop-i-init
loop-i-init c =
    let spans = c.args.spans.now in
    let first = c.args.first in
    let begins = kept_begins c.args.cell c.args.gaps.now c.args.scanned.now.pairs first c.in_ok-starts.starts.items c.in_ok-starts.ensures.items
    (record { sizes = refl; numbers = refl; widths_bounded = c.requires.bounded; inside = tt }) in
    record {
      within = omega arith;
      at = start_first first spans 0 refl;
      frozen = frozen_first false spans 0 refl;
      starts = subst (λ a. KeptSoFar c.args.cell c.args.gaps.now c.args.scanned.now.pairs first a (is_start_frozen false spans 0) false c.in_ok-starts.starts.items) (start_first first spans 0 refl)
          (subst (λ f. KeptSoFar c.args.cell c.args.gaps.now c.args.scanned.now.pairs first first f false c.in_ok-starts.starts.items) (frozen_first false spans 0 refl) begins);
    }

pub cell_start-start-requires-clause-ordered : goal.cell_start-start-requires-clause-ordered
cell_start-start-requires-clause-ordered c =
    (is_line c.args.cell c.args.gaps.now c.args.scanned.now.pairs c.args.first c.args.spans.now c.requires.same c.requires.spans c.loop-i.i c.loop-i.at c.loop-i.frozen c.loop-i.invariant.at c.loop-i.invariant.frozen c.loop-i-test.true
    (can_here c.args.cell c.args.spans.now c.loop-i.i c.next_with_cell-next.result c.next_with_cell-next.ensures.later c.if-i-next.false c.loop-i-test.true c.next_with_cell-next.ensures.found)).split.more

pub cell_start-start-requires-clause-within : goal.cell_start-start-requires-clause-within
cell_start-start-requires-clause-within c =
    (is_line c.args.cell c.args.gaps.now c.args.scanned.now.pairs c.args.first c.args.spans.now c.requires.same c.requires.spans c.loop-i.i c.loop-i.at c.loop-i.frozen c.loop-i.invariant.at c.loop-i.invariant.frozen c.loop-i-test.true
    (can_here c.args.cell c.args.spans.now c.loop-i.i c.next_with_cell-next.result c.next_with_cell-next.ensures.later c.if-i-next.false c.loop-i-test.true c.next_with_cell-next.ensures.found)).split.within

pub cell_start-start-requires-clause-flags : goal.cell_start-start-requires-clause-flags
cell_start-start-requires-clause-flags c =
    (is_line c.args.cell c.args.gaps.now c.args.scanned.now.pairs c.args.first c.args.spans.now c.requires.same c.requires.spans c.loop-i.i c.loop-i.at c.loop-i.frozen c.loop-i.invariant.at c.loop-i.invariant.frozen c.loop-i-test.true
    (can_here c.args.cell c.args.spans.now c.loop-i.i c.next_with_cell-next.result c.next_with_cell-next.ensures.later c.if-i-next.false c.loop-i-test.true c.next_with_cell-next.ensures.found)).flags

pub cell_start-start-requires-clause-bounded : goal.cell_start-start-requires-clause-bounded
cell_start-start-requires-clause-bounded c =
    let line : LineSpan = get_or c.args.spans.now c.loop-i.i no_span in
    let this = is_line c.args.cell c.args.gaps.now c.args.scanned.now.pairs c.args.first c.args.spans.now c.requires.same c.requires.spans c.loop-i.i c.loop-i.at c.loop-i.frozen c.loop-i.invariant.at c.loop-i.invariant.frozen c.loop-i-test.true
    (can_here c.args.cell c.args.spans.now c.loop-i.i c.next_with_cell-next.result c.next_with_cell-next.ensures.later c.if-i-next.false c.loop-i-test.true c.next_with_cell-next.ensures.found) in
    let kept = kept_here c.args.cell c.args.gaps.now c.args.scanned.now.pairs c.args.first c.args.spans.now c.requires.same c.requires.spans c.loop-i.i c.loop-i.at c.loop-i.frozen c.loop-i.in_run c.loop-i.starts.items c.loop-i.invariant.at c.loop-i.invariant.frozen c.loop-i.invariant.starts in
    starts_bounded c.args.cell c.args.gaps.now c.args.scanned.now.pairs c.args.first c.loop-i.at c.loop-i.frozen kept.all line.past line.next_frozen
    c.requires.same this.split kept.so_far

pub loop-i-preserved : goal.loop-i-preserved
loop-i-preserved c =
    let spans = c.args.spans.now in
    let first = c.args.first in
    let to = c.if-i-next.i in
    elim c.if-i-next.branch [
      | then-i-next+in_ok-push_start w ↦
          let within : to ≤ length spans = omega (arith, w.i-is, c.next_with_cell-next.ensures.within) in
          let more : 0 < to = omega (arith, w.i-is, w.if-i-next.true) in
          let passed = kept_passed c.args.cell c.args.gaps.now c.args.scanned.now.pairs first spans c.requires.same c.requires.spans c.loop-i.i c.next_with_cell-next.result c.loop-i.in_run c.loop-i.starts.items w.push_start.new.starts.items
          w.if-i-next.true c.next_with_cell-next.ensures.within c.next_with_cell-next.ensures.lacking w.in_ok-push_start.ensures c.loop-i.invariant.starts in
          record {
            within = within;
            at = sym (start_is first spans to more within);
            frozen = sym (frozen_is false spans to more within);
            starts = kept_same c.args.cell c.args.gaps.now c.args.scanned.now.pairs first spans c.requires.same c.requires.spans to c.next_with_cell-next.result c.if-i-next.in_run false c.if-i-next.starts.items w.push_start.new.starts.items w.i-is w.in_run-is (ap (λ s. s.items) w.starts-is) passed;
          }
      | else-i-next+in_ok-push_start-2 w ↦
          let within : to ≤ length spans = omega (arith, w.i-is, c.loop-i-test.true) in
          let more : 0 < to = omega (arith, w.i-is) in
          let one = kept_one c.args.cell c.args.gaps.now c.args.scanned.now.pairs first spans c.requires.same c.requires.spans c.loop-i.i (c.loop-i.i + 1) c.loop-i.at c.loop-i.frozen c.loop-i.in_run w.is_cell-in_run.result c.loop-i.starts.items w.push_start-else-i-next.new.starts.items w.cell_start-start.result
          c.loop-i.invariant.at c.loop-i.invariant.frozen refl c.loop-i-test.true (can_here c.args.cell spans c.loop-i.i c.next_with_cell-next.result c.next_with_cell-next.ensures.later w.if-i-next.false c.loop-i-test.true c.next_with_cell-next.ensures.found) w.in_ok-push_start-2.ensures w.is_cell-in_run.ensures w.cell_start-start.ensures.width w.cell_start-start.ensures.token w.cell_start-start.ensures.inside c.loop-i.invariant.starts in
          record {
            within = within;
            at = sym (start_is first spans to more within);
            frozen = sym (frozen_is false spans to more within);
            starts = kept_same c.args.cell c.args.gaps.now c.args.scanned.now.pairs first spans c.requires.same c.requires.spans to (c.loop-i.i + 1) c.if-i-next.in_run w.is_cell-in_run.result c.if-i-next.starts.items w.push_start-else-i-next.new.starts.items w.i-is w.in_run-is (ap (λ s. s.items) w.starts-is) one;
          }
    ]

pub returns : goal.returns
returns c =
    kept_all c.args.cell c.args.gaps.now c.args.scanned.now.pairs c.args.first c.args.spans.now c.requires.same c.requires.spans c.loop-i.i c.loop-i.in_run c.loop-i.starts.items c.loop-i-test.false c.loop-i.invariant.within c.loop-i.invariant.starts
