use Rattle.std.proofs.Common.{◌≡◌, ◌+◌, ◌-◌, ◌<◌, ◌≤◌, [], false, length, take, slice_range, slice_set, sym, ap, subst, ◌∙◌, arith}
use Rattle.std.proofs.lemmas.List.{take_more_set, length-set}
use Rattle.hcl_token.specs.TokenizedText.{kind_of}
use Rattle.hcl_scan.specs.Tokenization.{MAX_TEXT}
use Rattle.hcl_layout.specs.Gaps.Space.{prev_after_all}
use Rattle.hcl_layout.specs.Gaps.Inner.CodeViews.{is_here_open}
use Rattle.hcl_layout.proofs.GapsLemmas.LineLemmas.{IsInLine, in_line_begins}
use Rattle.hcl_layout.proofs.GapsLemmas.NearLemmas.{next_space, last_space}
use Rattle.hcl_layout.proofs.GapsLemmas.LinePass.{CountsTo, no_counts, counts_more, ends_if, counts_if, none_ends, passes_on, ends_here, ends_last, line_passed, opened_is, closed_is, spaced_begins}
use Rattle.hcl_layout.proofs.gaps.line_pass.fill_line.Goals as goal

pub loop-i-init : goal.loop-i-init
loop-i-init c =
    let gaps = c.args.gaps.now.items in
    let place : c.args.at ≡ c.args.at + 1 - 1 = omega arith in
    record {
      line = subst (λ n. IsInLine c.args.scanned.now.pairs c.args.at false n 0) place (in_line_begins c.args.scanned.now.pairs c.args.at false);
      counts = no_counts c.args.scanned.now.pairs c.args.at (c.args.at + 1 - 1) (omega arith);
      a = c.kind-a.ensures ∙ ap (kind_of c.args.scanned.now.pairs) place;
      spaced = spaced_begins c.args.scanned.now.pairs c.args.first c.args.at (c.args.at + 1) (take c.args.at gaps) (take (c.args.at + 1) (slice_set gaps c.args.at 0)) (omega arith)
          (take_more_set gaps c.args.at 0 (omega (arith, c.requires.same, c.requires.within)));
      same = length-set gaps c.args.at 0;
    }

pub returns-then-marks-ge-LINE_END-clause-line : goal.returns-then-marks-ge-LINE_END-clause-line
returns-then-marks-ge-LINE_END-clause-line c =
    let ps = c.args.scanned.now.pairs in
    let i = c.loop-i.i in
    let old = c.loop-i.invariant in
    let inside : i - 1 < length ps = omega (arith, c.loop-i-test.true, c.len-i-end.ensures.value) in
    let few : i ≤ MAX_TEXT = omega (arith, c.loop-i-test.true, c.len-i-end.ensures.value, c.requires.within_limit) in
    let step : i ≡ i - 1 + 1 = omega (arith, c.loop-i.auto.i) in
    let counts = counts_more ps c.args.at (i - 1) i c.loop-i.a c.loop-i.brackets c.loop-i.marks c.bracket_number-brackets.result c.mark_number-marks.result (omega (arith, c.loop-i.auto.i)) inside step old.a c.bracket_number-brackets.ensures c.mark_number-marks.ensures old.counts in
    let ends = ends_if ps c.args.at i _ _ c.loop-i.a few counts c.if-marks-ge-LINE_END.true in
    let split = ends_here ps c.args.at (i - 1) i c.loop-i.a old.line c.requires.within inside step old.a ends in
    line_passed ps c.args.at i _ _ _ (is_here_open c.loop-i.a) c.passed_line.result.line few split counts
    c.passed_line.ensures.past (c.passed_line.ensures.next_frozen ∙ c.is_here_open.ensures) c.passed_line.ensures.is_balanced c.passed_line.ensures.has_comment c.passed_line.ensures.has_equals

pub returns-then-marks-ge-LINE_END-clause-opened : goal.returns-then-marks-ge-LINE_END-clause-opened
returns-then-marks-ge-LINE_END-clause-opened c =
    let ps = c.args.scanned.now.pairs in
    let i = c.loop-i.i in
    let old = c.loop-i.invariant in
    let inside : i - 1 < length ps = omega (arith, c.loop-i-test.true, c.len-i-end.ensures.value) in
    let few : i ≤ MAX_TEXT = omega (arith, c.loop-i-test.true, c.len-i-end.ensures.value, c.requires.within_limit) in
    let step : i ≡ i - 1 + 1 = omega (arith, c.loop-i.auto.i) in
    let counts = counts_more ps c.args.at (i - 1) i c.loop-i.a c.loop-i.brackets c.loop-i.marks c.bracket_number-brackets.result c.mark_number-marks.result (omega (arith, c.loop-i.auto.i)) inside step old.a c.bracket_number-brackets.ensures c.mark_number-marks.ensures old.counts in
    opened_is ps c.args.at i _ _ _ c.passed_line.result.opened c.passed_line.result.line.past few counts c.passed_line.ensures.past c.passed_line.ensures.opened

pub returns-then-marks-ge-LINE_END-clause-closed : goal.returns-then-marks-ge-LINE_END-clause-closed
returns-then-marks-ge-LINE_END-clause-closed c =
    let ps = c.args.scanned.now.pairs in
    let i = c.loop-i.i in
    let old = c.loop-i.invariant in
    let inside : i - 1 < length ps = omega (arith, c.loop-i-test.true, c.len-i-end.ensures.value) in
    let few : i ≤ MAX_TEXT = omega (arith, c.loop-i-test.true, c.len-i-end.ensures.value, c.requires.within_limit) in
    let step : i ≡ i - 1 + 1 = omega (arith, c.loop-i.auto.i) in
    let counts = counts_more ps c.args.at (i - 1) i c.loop-i.a c.loop-i.brackets c.loop-i.marks c.bracket_number-brackets.result c.mark_number-marks.result (omega (arith, c.loop-i.auto.i)) inside step old.a c.bracket_number-brackets.ensures c.mark_number-marks.ensures old.counts in
    closed_is ps c.args.at i _ _ _ c.passed_line.result.closed c.passed_line.result.line.past few counts c.passed_line.ensures.past c.passed_line.ensures.closed

pub returns-then-marks-ge-LINE_END-clause-gaps : goal.returns-then-marks-ge-LINE_END-clause-gaps
returns-then-marks-ge-LINE_END-clause-gaps c =
    let ps = c.args.scanned.now.pairs in
    let i = c.loop-i.i in
    let past = c.passed_line.result.line.past in
    let within : past ≤ length ps = omega (arith, c.passed_line.ensures.past, c.loop-i-test.true, c.len-i-end.ensures.value) in
    ap (λ n. take n c.loop-i.gaps.items) c.passed_line.ensures.past
    ∙ sym (last_space ps i past (prev_after_all (slice_range ps c.args.first (i - 1)) []) (take i c.loop-i.gaps.items) (omega (arith, c.loop-i.auto.i)) (sym c.passed_line.ensures.past) within)
    ∙ c.loop-i.invariant.spaced past (omega (arith, c.passed_line.ensures.past)) within

pub loop-i-preserved : goal.loop-i-preserved
loop-i-preserved c =
    let ps = c.args.scanned.now.pairs in
    let i = c.loop-i.i in
    let old = c.loop-i.invariant in
    let inside : i - 1 < length ps = omega (arith, c.loop-i-test.true, c.len-i-end.ensures.value) in
    let few : i ≤ MAX_TEXT = omega (arith, c.loop-i-test.true, c.len-i-end.ensures.value, c.requires.within_limit) in
    let step : i ≡ i - 1 + 1 = omega (arith, c.loop-i.auto.i) in
    let counts = counts_more ps c.args.at (i - 1) i c.loop-i.a c.loop-i.brackets c.loop-i.marks c.bracket_number-brackets.result c.mark_number-marks.result (omega (arith, c.loop-i.auto.i)) inside step old.a c.bracket_number-brackets.ensures c.mark_number-marks.ensures old.counts in
    let continues_line = counts_if ps c.args.at i _ _ c.loop-i.a counts c.if-marks-ge-LINE_END.false in
    let same : i ≡ i + 1 - 1 = omega arith in
    let inside_gaps : i < length c.loop-i.gaps.items = omega (arith, old.same, c.requires.same, c.loop-i-test.true, c.len-i-end.ensures.value) in
    record {
      line = passes_on ps c.args.at (i - 1) (i + 1 - 1) c.loop-i.a old.line inside (omega (arith, c.loop-i.auto.i)) old.a continues_line;
      counts = subst (λ n. CountsTo ps c.args.at n (c.loop-i.brackets + c.bracket_number-brackets.result) (c.loop-i.marks + c.mark_number-marks.result) 0) same (none_ends ps c.args.at i _ _ c.loop-i.a continues_line counts);
      a = c.kind-b.ensures ∙ ap (kind_of ps) (omega arith);
      spaced = λ to later within.
          next_space ps c.args.first i to (i + 1 - 1) c.gap_len.result (take i c.loop-i.gaps.items) (take (i + 1) (slice_set c.loop-i.gaps.items i c.gap_len.result))
          (omega (arith, c.loop-i.auto.i, c.requires.not_before_first)) (omega (arith, later)) within (omega arith) c.gap_len.ensures.value
          (take_more_set c.loop-i.gaps.items i c.gap_len.result inside_gaps)
          ∙ old.spaced to (omega (arith, later)) within;
      same = length-set c.loop-i.gaps.items i c.gap_len.result ∙ old.same;
    }

pub returns-clause-line : goal.returns-clause-line
returns-clause-line c =
    let ps = c.args.scanned.now.pairs in
    let i = c.loop-i.i in
    let old = c.loop-i.invariant in
    let top = c.loop-i.auto.i-end (omega (arith, c.requires.within, c.len-i-end.ensures.value)) in
    let end : i ≡ length ps = omega (arith, top, c.loop-i-test.false, c.len-i-end.ensures.value) in
    let inside : i - 1 < length ps = omega (arith, end, c.loop-i.auto.i) in
    let few : c.len.result ≤ MAX_TEXT = omega (arith, c.len.ensures.value, c.requires.within_limit) in
    let step : c.len.result ≡ i - 1 + 1 = omega (arith, c.len.ensures.value, end, c.loop-i.auto.i) in
    let counts = counts_more ps c.args.at (i - 1) c.len.result c.loop-i.a c.loop-i.brackets c.loop-i.marks c.bracket_number-brackets-2.result c.mark_number-marks-2.result (omega (arith, c.loop-i.auto.i)) inside step old.a c.bracket_number-brackets-2.ensures c.mark_number-marks-2.ensures old.counts in
    let split = ends_last ps c.args.at (i - 1) c.len.result c.loop-i.a old.line c.requires.within (omega (arith, end, c.loop-i.auto.i)) c.len.ensures.value old.a in
    line_passed ps c.args.at c.len.result _ _ _ (is_here_open c.loop-i.a) c.passed_line-2.result.line few split counts
    c.passed_line-2.ensures.past (c.passed_line-2.ensures.next_frozen ∙ c.is_here_open-2.ensures) c.passed_line-2.ensures.is_balanced c.passed_line-2.ensures.has_comment c.passed_line-2.ensures.has_equals

pub returns-clause-opened : goal.returns-clause-opened
returns-clause-opened c =
    let ps = c.args.scanned.now.pairs in
    let i = c.loop-i.i in
    let old = c.loop-i.invariant in
    let top = c.loop-i.auto.i-end (omega (arith, c.requires.within, c.len-i-end.ensures.value)) in
    let end : i ≡ length ps = omega (arith, top, c.loop-i-test.false, c.len-i-end.ensures.value) in
    let inside : i - 1 < length ps = omega (arith, end, c.loop-i.auto.i) in
    let few : c.len.result ≤ MAX_TEXT = omega (arith, c.len.ensures.value, c.requires.within_limit) in
    let step : c.len.result ≡ i - 1 + 1 = omega (arith, c.len.ensures.value, end, c.loop-i.auto.i) in
    let counts = counts_more ps c.args.at (i - 1) c.len.result c.loop-i.a c.loop-i.brackets c.loop-i.marks c.bracket_number-brackets-2.result c.mark_number-marks-2.result (omega (arith, c.loop-i.auto.i)) inside step old.a c.bracket_number-brackets-2.ensures c.mark_number-marks-2.ensures old.counts in
    opened_is ps c.args.at c.len.result _ _ _ c.passed_line-2.result.opened c.passed_line-2.result.line.past few counts c.passed_line-2.ensures.past c.passed_line-2.ensures.opened

pub returns-clause-closed : goal.returns-clause-closed
returns-clause-closed c =
    let ps = c.args.scanned.now.pairs in
    let i = c.loop-i.i in
    let old = c.loop-i.invariant in
    let top = c.loop-i.auto.i-end (omega (arith, c.requires.within, c.len-i-end.ensures.value)) in
    let end : i ≡ length ps = omega (arith, top, c.loop-i-test.false, c.len-i-end.ensures.value) in
    let inside : i - 1 < length ps = omega (arith, end, c.loop-i.auto.i) in
    let few : c.len.result ≤ MAX_TEXT = omega (arith, c.len.ensures.value, c.requires.within_limit) in
    let step : c.len.result ≡ i - 1 + 1 = omega (arith, c.len.ensures.value, end, c.loop-i.auto.i) in
    let counts = counts_more ps c.args.at (i - 1) c.len.result c.loop-i.a c.loop-i.brackets c.loop-i.marks c.bracket_number-brackets-2.result c.mark_number-marks-2.result (omega (arith, c.loop-i.auto.i)) inside step old.a c.bracket_number-brackets-2.ensures c.mark_number-marks-2.ensures old.counts in
    closed_is ps c.args.at c.len.result _ _ _ c.passed_line-2.result.closed c.passed_line-2.result.line.past few counts c.passed_line-2.ensures.past c.passed_line-2.ensures.closed

pub returns-clause-gaps : goal.returns-clause-gaps
returns-clause-gaps c =
    let ps = c.args.scanned.now.pairs in
    let i = c.loop-i.i in
    let past = c.passed_line-2.result.line.past in
    let top = c.loop-i.auto.i-end (omega (arith, c.requires.within, c.len-i-end.ensures.value)) in
    let end : i ≡ past = omega (arith, top, c.loop-i-test.false, c.len-i-end.ensures.value, c.len.ensures.value, c.passed_line-2.ensures.past) in
    let within : past ≤ length ps = omega (arith, c.passed_line-2.ensures.past, c.len.ensures.value) in
    ap (λ n. take n c.loop-i.gaps.items) (sym end)
    ∙ sym (last_space ps i past (prev_after_all (slice_range ps c.args.first (i - 1)) []) (take i c.loop-i.gaps.items) (omega (arith, c.loop-i.auto.i)) end within)
    ∙ c.loop-i.invariant.spaced past (omega (arith, end)) within
