-- How far a place can be from the start of a text.
use Rattle.std.proofs.Common.{◌≡◌, ℕ, ◌+◌, ◌-◌, ◌<◌, ◌≤◌, true, false, List, [], ◌∷◌, length, take, slice_range, IsUtf8, count_by, refl, sym, ap, subst, ◌∙◌, arith}
use Rattle.std.specs.List.{list_any}
use Rattle.std.proofs.lemmas.List.Sums.{count_by-le-length}
use Rattle.hcl_token.specs.declared.place.Place.{Place}
use Rattle.hcl_token.specs.declared.span.Span.{Span}
use Rattle.hcl_token.specs.Tokens.{Pair, whole_text}
use Rattle.hcl_token.specs.Pairs.{pair_at, pairs_from, pairs_of, gap_at}
use Rattle.hcl_token.specs.Place.{clusters, is_lf, is_mark, last_line}
use Rattle.hcl_token.specs.Inner.LineColumn.{IsWellFormed, IsPlaceBounded, IsTokenRange, place_after_piece, place_after_pair, place_after_pairs, first_place, has_mark}
use Rattle.hcl_token.specs.Inner.AsciiText.{is_ascii_without_cr}
use Rattle.hcl_token.proofs.ClusterLemmas.{clusters-le}
use Rattle.hcl_token.proofs.OrderLemmas.{text_is-slice, length-range, gap-first, gap-le, order-le, order-slice, pairs-take, utf8-slice}
use Rattle.hcl_token.proofs.LineLemmas.{any_from_count, length-last_line, shorter_last_line, utf8_last_line}
use Rattle.hcl_token.proofs.PlaceLemmas.{column-none, column-some}
use Rattle.hcl_token.proofs.TokenRangeLemmas.{ascii_range, range_others}

-- the last line of a piece with an LF has fewer clusters than the piece has bytes
pub last_column : (piece : List ℕ) → IsUtf8 piece → 0 < count_by is_lf piece → clusters (last_line piece) < length piece
last_column piece u h = omega (arith, clusters-le (last_line piece) (utf8_last_line piece u), shorter_last_line piece (any_from_count piece h))

-- a place goes no further than the bytes of a piece
piece_column : (at : Place) (piece : List ℕ) → IsUtf8 piece → (place_after_piece at piece).column ≤ at.column + length piece
piece_column at piece u =
    elim (list_any is_lf piece) as (λ v. list_any is_lf piece ≡ v → (place_after_piece at piece).column ≤ at.column + length piece) [
      | true ↦ λ e. omega (arith, column-some at piece e, clusters-le (last_line piece) (utf8_last_line piece u), shorter_last_line piece e)
      | false ↦ λ e. omega (arith, column-none at piece e, clusters-le piece u)
    ] refl

piece_reached : (at : Place) (piece : List ℕ) (from to : ℕ) → IsUtf8 piece → IsPlaceBounded at from → from + length piece ≤ to → IsPlaceBounded (place_after_piece at piece) to
piece_reached at piece from to u r h = record {
  line = omega (arith, r.line, count_by-le-length is_lf piece);
  column = omega (arith, r.column, piece_column at piece u);
}

pair_reached : (text : List ℕ) (x : Span) (tokens : List Span) (from to : ℕ) (at : Place) → IsTokenRange text (x ∷ tokens) from to at → IsPlaceBounded (place_after_pair at (pair_at text from x)) x.stop
pair_reached text x tokens from to at s =
    let gap : List ℕ = slice_range text from x.start in
    let spelling : List ℕ = slice_range text x.start x.stop in
    let inside : x.stop ≤ length text = omega (arith, order-le tokens x.stop to s.order.2, s.within) in
    let gap_len : length gap ≡ x.start - from = length-range text from x.start s.order.0 (omega (arith, s.order.1)) in
    let spelling_len : length spelling ≡ x.stop - x.start = length-range text x.start x.stop s.order.1 inside in
    let at_start : IsPlaceBounded (place_after_piece at gap) x.start = piece_reached at gap from x.start s.utf8.0 s.bounded (omega (arith, gap_len, s.order.0)) in
    elim (is_mark x.kind) as (λ v. is_mark x.kind ≡ v → IsPlaceBounded (place_after_pair at (pair_at text from x)) x.stop) [
      | true ↦ λ e. rw e (record { line = omega (arith, at_start.line, s.order.1); column = omega (arith, at_start.column, s.order.1) })
      | false ↦ λ e. rw e (piece_reached (place_after_piece at gap) spelling x.start x.stop s.utf8.1 at_start (omega (arith, spelling_len, s.order.1)))
    ] refl

pub range_bounded : (text : List ℕ) (tokens : List Span) (from to : ℕ) (at : Place) → IsTokenRange text tokens from to at → IsPlaceBounded (place_after_pairs at (pairs_from text from tokens)) to
range_bounded text [] from to at s = subst (λ n. IsPlaceBounded at n) s.order s.bounded
range_bounded text (x ∷ tokens) from to at s =
    range_bounded text tokens x.stop to (place_after_pair at (pair_at text from x)) (range_others text x tokens from to at (place_after_pair at (pair_at text from x)) s (pair_reached text x tokens from to at s))

-- a stretch of a text, by the numbers of its tokens
pub pairs_in_range : (text : List ℕ) (tokens : List Span) (last from to : ℕ) (at : Place) → IsWellFormed text tokens last → from ≤ to → IsPlaceBounded at (gap_at tokens from)
    → IsTokenRange text (slice_range tokens from to) (gap_at tokens from) (gap_at tokens to) at
pairs_in_range text tokens last from to at o le reached = record {
  order = order-slice tokens 0 last from to o.order le;
  within = omega (arith, gap-le tokens 0 last to o.order, o.within);
  short = o.short;
  utf8 = utf8-slice text tokens 0 from to o.utf8;
  bounded = reached;
}

pub start_bounded : (text : List ℕ) (tokens : List Span) (last n : ℕ) → IsWellFormed text tokens last → IsPlaceBounded (place_after_pairs first_place (take n (pairs_of text tokens))) (gap_at tokens n)
start_bounded text tokens last n o =
    let begin : IsPlaceBounded first_place (gap_at tokens 0) = record { line = omega arith; column = omega arith } in
    let s = pairs_in_range text tokens last 0 n first_place o (omega arith) begin in
    let all : n - 0 ≡ n = omega arith in
    let same : pairs_from text (gap_at tokens 0) (slice_range tokens 0 n) ≡ take n (pairs_of text tokens) =
    ap (λ from. pairs_from text from (slice_range tokens 0 n)) (gap-first tokens 0) ∙ ap (λ k. pairs_of text (take k tokens)) all ∙ sym (pairs-take text tokens 0 n) in
    subst (λ (ps : List Pair). IsPlaceBounded (place_after_pairs first_place ps) (gap_at tokens n)) same
    (range_bounded text (slice_range tokens 0 n) (gap_at tokens 0) (gap_at tokens n) first_place s)

pub range_length : (text : List ℕ) (tokens : List Span) (from to : ℕ) (at : Place) → IsTokenRange text tokens from to at → from + length (slice_range text from to) ≡ to
range_length text tokens from to at s =
    let le : from ≤ to = order-le tokens from to s.order in
    omega (arith, length-range text from to le s.within)

-- the last line of a stretch is within it
pub last_within : (text : List ℕ) (tokens : List Span) (from to : ℕ) (at : Place) (bytes last : List ℕ) → IsTokenRange text tokens from to at → bytes ≡ slice_range text from to
    → last ≡ last_line bytes → (length last ≤ to) × (to - length last + length (last_line (slice_range text from to)) ≡ to)
last_within text tokens from to at bytes last s is ends =
    let le : length last ≤ to = omega (arith, range_length text tokens from to at s, ap length ends, length-last_line bytes, ap length is) in
    (le, omega (arith, ap length ends, ap (λ (t : List ℕ). length (last_line t)) is))

-- where the last line of a stretch is plain, its bytes are one piece
pub ascii_part : (text : List ℕ) (tokens : List Span) (from to : ℕ) (at : Place) (bytes last : List ℕ) → IsTokenRange text tokens from to at → bytes ≡ slice_range text from to
    → last ≡ last_line bytes → is_ascii_without_cr last ≡ true → has_mark tokens ≡ false → place_after_piece at bytes ≡ place_after_pairs at (pairs_from text from tokens)
ascii_part text tokens from to at bytes last s is ends plain none =
    let text_is : bytes ≡ whole_text (pairs_from text from tokens) [] = is ∙ sym (text_is-slice text tokens from to s.order) in
    let plain_line = ap (λ b. is_ascii_without_cr (last_line b)) (sym text_is) ∙ ap is_ascii_without_cr (sym ends) ∙ plain in
    ap (place_after_piece at) text_is ∙ sym (ascii_range text tokens from at plain_line none)
