use Rattle.std.proofs.Common.{◌≡◌, ◌<◌, ◌+◌, List, length, slice_range, Some, arith, ap, refl, sym, subst, ◌∙◌}
use Rattle.hcl_token.specs.declared.span.Span.{Span}
use Rattle.hcl_token.specs.declared.kind.Kind.TheVariants.{LineEnd}
use Rattle.hcl_token.specs.Pairs.{spans_from}
use Rattle.hcl_token.specs.Tokens.{Pair}
use Rattle.hcl_rescan.specs.Inner.WholeLines.{IsLineStart, IsLineRange}
use Rattle.hcl_rescan.specs.Inner.Sequences.{opened, closed}
use Rattle.hcl_rescan.proofs.LineLemmas.{line_start_at_line_end}
use Rattle.hcl_rescan.proofs.MovedLemmas.{spans_length}
use Rattle.hcl_rescan.proofs.SequenceLemmas.{none_open_at}
use Rattle.hcl_rescan.proofs.line_starts.last_line_start.Goals as goal

-- all tokens of the text are lent
all_spans : (pairs lent : List Pair) (spans : List Span) → spans ≡ spans_from 0 lent → lent ≡ pairs → length spans ≡ length pairs
all_spans pairs lent spans are same = ap length (are ∙ ap (spans_from 0) same) ∙ spans_length 0 pairs

pub first_beyond-past-requires : goal.first_beyond-past-requires
first_beyond-past-requires c = omega (arith, all_spans _ _ _ c.spans-spans.ensures c.places.ensures, c.requires.within)

pub last_line_end-requires : goal.last_line_end-requires
last_line_end-requires c = omega (arith, all_spans _ _ _ c.spans-spans.ensures c.places.ensures, c.first_beyond-past.ensures.within)

pub span_range-requires-clause-within : goal.span_range-requires-clause-within
span_range-requires-clause-within c = omega (arith, all_spans _ _ _ c.spans-spans.ensures c.places.ensures, c.in-Some.ensures.1, c.first_beyond-past.ensures.within)

pub overflow_add-result : goal.overflow_add-result
overflow_add-result c = record { fits = omega (arith, c.in-Some.ensures.1) }

line : (c : goal.After-struct_known-1) → IsLineStart c.args.old.now (c.in-Some.end + 1) c.item.result.stop × IsLineRange c.args.old.now.pairs c.args.from.index (c.in-Some.end + 1) × (c.args.from.index < c.in-Some.end + 1)
line c =
    let old = c.args.old.now in
    let from = c.args.from in
    let end = c.in-Some.end in
    let spans = c.spans-spans.result.now in
    let found = c.in-Some.ensures in
    let known : spans ≡ spans_from 0 old.pairs = c.spans-spans.ensures ∙ ap (spans_from 0) c.places.ensures in
    let within : end < length old.pairs = omega (arith, found.1, c.first_beyond-past.ensures.within, all_spans _ _ _ c.spans-spans.ensures c.places.ensures) in
    let is : Some LineEnd ≡ Rattle.hcl_token.specs.TokenizedText.kind_of old.pairs end = sym found.2 in
    let balance : opened (slice_range spans from.index end) ≡ closed (slice_range spans from.index end) =
    subst (λ (x : List Span). opened x ≡ closed x) c.span_range.ensures (c.close_what_they_open.ensures c.if-not-close_what_they_open.false) in
    let none = none_open_at old from.index from.at end LineEnd spans c.requires known found.0 within is refl balance in
    line_start_at_line_end old from.index from.at end LineEnd c.item.result c.requires found.0 within is refl c.item.ensures none

pub returns-clause-line_start : goal.returns-clause-line_start
returns-clause-line_start c = (line c).0

pub returns-clause-lines : goal.returns-clause-lines
returns-clause-lines c = (line c).1
