use Rattle.std.proofs.Common.{◌≡◌, ◌++◌, ◌+◌, List, length, ap, sym, subst, ◌∙◌, arith, length-append}
use Rattle.std.proofs.lemmas.List.{with_items_is}
use Rattle.hcl_token.specs.declared.span.Span.{Span}
use Rattle.hcl_token.specs.Pairs.{spans_from}
use Rattle.hcl_rescan.specs.Inner.MovedSpans.{AreMovable, moved_spans}
use Rattle.hcl_rescan.proofs.MovedLemmas.{range_after_prefix_at, moved_length, spans_length, start_short, stretch_movable, stretch_moved, written}
use Rattle.hcl_rescan.proofs.moved.push_relocated.Goals as goal

pub span_range-requires-clause-within : goal.span_range-requires-clause-within
span_range-requires-clause-within c =
    let known = c.spans.ensures ∙ ap (spans_from 0) c.places.ensures in
    omega (arith, ap length known, spans_length 0 c.args.old.now.pairs, c.requires.within)

pub overflow_cast-from : goal.overflow_cast-from
overflow_cast-from c = record { fits = omega (arith, start_short c.args.old.now c.args.from.index c.args.from.at c.text-text.ensures.tokenization c.requires.line_start) }

pub move_spans-requires : goal.move_spans-requires
move_spans-requires c =
    let old = c.args.old.now in
    let from = c.args.from in
    let known = c.spans.ensures ∙ ap (spans_from 0) c.places.ensures in
    let is = c.slice_mut.ensures.value
    ∙ range_after_prefix_at c.extend_from_slice.new.self.items c.args.tokens.now.items c.span_range.result.now c.len-begin.result _ c.in_ok-extend_from_slice.ensures.items
    (c.len-begin.ensures ∙ c.args.tokens.now.ok.0) c.extend_from_slice.new.self.ok.0
    ∙ c.span_range.ensures in
    subst (AreMovable from.at c.args.at) (sym is) (stretch_movable old from.index from.at c.args.to c.args.at c.spans.result.now c.requires.line_start known c.requires.ordered c.requires.fits)

pub returns : goal.returns
returns c =
    let old = c.args.old.now in
    let from = c.args.from in
    let at = c.args.at in
    let first = c.args.tokens.now.items in
    let items = c.extend_from_slice.new.self.items in
    let more = c.span_range.result.now in
    let new = c.move_spans.new.spans in
    let begin = c.len-begin.result in
    let known = c.spans.ensures ∙ ap (spans_from 0) c.places.ensures in
    let all = c.in_ok-extend_from_slice.ensures.items in
    let begins = c.len-begin.ensures ∙ c.args.tokens.now.ok.0 in
    let is = c.slice_mut.ensures.value ∙ range_after_prefix_at items first more begin _ all begins c.extend_from_slice.new.self.ok.0 in
    let moved = c.move_spans.ensures ∙ ap (moved_spans from.at at) is in
    let same : length new ≡ length more = ap length moved ∙ moved_length from.at at more in
    let put = written items first more new begin all begins same in
    let size = ap length put ∙ length-append first new ∙ ap (λ n. length first + n) same ∙ sym (length-append first more) ∙ sym (ap length all) ∙ sym c.extend_from_slice.new.self.ok.0 in
    with_items_is c.extend_from_slice.new.self _ size
    ∙ put
    ∙ ap (λ (x : List Span). first ++ x)
    (moved ∙ ap (moved_spans from.at at) c.span_range.ensures ∙ stretch_moved old from.index from.at c.args.to at c.spans.result.now c.requires.line_start known)
