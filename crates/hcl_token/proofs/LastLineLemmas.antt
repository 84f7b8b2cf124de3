-- The place after tokens, by those of the last line alone.
use Rattle.std.proofs.Common.{◌≡◌, ℕ, zero, suc, ◌+◌, ◌-◌, ◌<◌, ◌≤◌, true, false, List, [], ◌∷◌, ◌++◌, length, take, drop, slice_range, count_by, refl, sym, ap, ap₂, subst, ◌∙◌, arith, length-append}
use Rattle.std.specs.List.{All, list_any, concat}
use Rattle.std.proofs.lemmas.Bool.{or_parts}
use Rattle.std.proofs.lemmas.List.{take-append-drop}
use Rattle.std.proofs.lemmas.List.Elements.{All-cons}
use Rattle.std.proofs.lemmas.List.Folds.{list_any-append}
use Rattle.std.proofs.lemmas.List.Sums.{count_by-le-length}
use Rattle.unicode_segmentation.proofs.TextLemmas.{slice_range_split}
use Rattle.hcl_token.specs.declared.place.Place.{Place}
use Rattle.hcl_token.specs.declared.span.Span.{Span}
use Rattle.hcl_token.specs.Tokens.{Pair, whole_text}
use Rattle.hcl_token.specs.Pairs.{pair_at, pairs_from, gap_from, InOrder}
use Rattle.hcl_token.specs.Place.{counted_bytes, is_lf, is_mark, last_line}
use Rattle.hcl_token.specs.Inner.LineColumn.{IsLastLine, IsTokenRange, place_after_pair, place_after_pairs, has_mark}
use Rattle.hcl_token.proofs.LineLemmas.{last_line-append_none, length-last_line}
use Rattle.hcl_token.proofs.OrderLemmas.{gap-first, length-range, order-drop, order-le, order-take, text_is-slice, utf8-drop}
use Rattle.hcl_token.proofs.PlaceLemmas.{after_pieces, column-pieces_some, line-pieces, place_after_pair-pieces, place_is}
use Rattle.hcl_token.proofs.TokenRangeLemmas.{IsAlong, place_after_pairs-split}

-- what counts of pairs, in pieces
abbrev pieces_of : List Pair → List (List ℕ)
pieces_of [] = []
pieces_of (p ∷ ps) = p.gap ∷ counted_bytes p ∷ pieces_of ps

pairs-pieces : (at : Place) (pairs : List Pair) → place_after_pairs at pairs ≡ after_pieces at (pieces_of pairs)
pairs-pieces at [] = refl
pairs-pieces at (p ∷ pairs) = pairs-pieces (place_after_pair at p) pairs ∙ ap (λ (x : Place). after_pieces x (pieces_of pairs)) (place_after_pair-pieces at p)

-- without a byte order mark, all bytes count
pieces-unmarked : (text : List ℕ) (tokens : List Span) (from : ℕ) → has_mark tokens ≡ false → concat (pieces_of (pairs_from text from tokens)) ≡ whole_text (pairs_from text from tokens) []
pieces-unmarked text [] from none = refl
pieces-unmarked text (x ∷ tokens) from none =
    let marks = or_parts (is_mark x.kind) (has_mark tokens) none in
    let counted : counted_bytes (pair_at text from x) ≡ slice_range text x.start x.stop = rw marks.0 refl in
    ap (λ (l : List ℕ). slice_range text from x.start ++ l)
    (ap₂ (λ (s t : List ℕ). s ++ t) counted (pieces-unmarked text tokens x.stop marks.1))

range_bytes : (text : List ℕ) (tokens : List Span) (from to : ℕ) → InOrder from tokens to → has_mark tokens ≡ false → concat (pieces_of (pairs_from text from tokens)) ≡ slice_range text from to
range_bytes text tokens from to o none = pieces-unmarked text tokens from none ∙ text_is-slice text tokens from to o

-- the line after tokens, by the LFs of their bytes
range_line : (text : List ℕ) (tokens : List Span) (from to : ℕ) (at : Place) → InOrder from tokens to → has_mark tokens ≡ false
    → (place_after_pairs at (pairs_from text from tokens)).line ≡ at.line + count_by is_lf (slice_range text from to)
range_line text tokens from to at o none =
    ap (λ (p : Place). p.line) (pairs-pieces at (pairs_from text from tokens))
    ∙ line-pieces at (pieces_of (pairs_from text from tokens))
    ∙ ap (λ (l : List ℕ). at.line + count_by is_lf l) (range_bytes text tokens from to o none)

-- the column before tokens that have an LF does not matter
column_anew : (text : List ℕ) (tokens : List Span) (from to : ℕ) (p q : Place) → InOrder from tokens to → has_mark tokens ≡ false → list_any is_lf (slice_range text from to) ≡ true → p.line ≡ q.line
    → place_after_pairs p (pairs_from text from tokens) ≡ place_after_pairs q (pairs_from text from tokens)
column_anew text tokens from to p q o none some same =
    let pieces : List (List ℕ) = pieces_of (pairs_from text from tokens) in
    let any : list_any is_lf (concat pieces) ≡ true = ap (list_any is_lf) (range_bytes text tokens from to o none) ∙ some in
    let equal : after_pieces p pieces ≡ after_pieces q pieces =
    place_is _ _ _ _ (omega (arith, line-pieces p pieces, line-pieces q pieces)) (column-pieces_some p pieces any ∙ sym (column-pieces_some q pieces any)) in
    pairs-pieces p (pairs_from text from tokens) ∙ equal ∙ sym (pairs-pieces q (pairs_from text from tokens))

-- a second part that is longer than the last line has an LF
longer_than_line : (s t : List ℕ) → length (last_line (s ++ t)) < length t → list_any is_lf t ≡ true
longer_than_line s t h =
    elim (list_any is_lf t) as (λ v. list_any is_lf t ≡ v → v ≡ true) [
      | true ↦ λ e. refl
      | false ↦ λ e. absurd (omega (arith, ap length (last_line-append_none s t e), length-append (last_line s) t))
    ] refl

marks-split : (tokens : List Span) (i : ℕ) → has_mark tokens ≡ false → (has_mark (take i tokens) ≡ false) × (has_mark (drop i tokens) ≡ false)
marks-split tokens i none =
    or_parts (has_mark (take i tokens)) (has_mark (drop i tokens))
    (sym (list_any-append (λ (token : Span). is_mark token.kind) (take i tokens) (drop i tokens)) ∙ ap has_mark (take-append-drop i tokens) ∙ none)

-- the last line begins at the first byte or after it
pub begin_after : (text : List ℕ) (tokens : List Span) (from to begin : ℕ) (at : Place) → IsLastLine text tokens from to begin at → from ≤ begin
begin_after text tokens from to begin at l =
    let order = order-le tokens from to l.range.order in
    omega (arith, order, l.ends, length-last_line (slice_range text from to), length-range text from to order l.range.within)

-- the gap before token i begins in the text, and not before the first
pub gap_inside : (text : List ℕ) (tokens : List Span) (from to begin i : ℕ) (at : Place) → IsLastLine text tokens from to begin at
    → (from ≤ gap_from from tokens i) × (gap_from from tokens i ≤ length text)
gap_inside text tokens from to begin i at l =
    let order = l.range.order in
    let below = order-le (take i tokens) from (gap_from from tokens i) (order-take tokens from to i order) in
    let above = order-le (drop i tokens) (gap_from from tokens i) to (order-drop tokens from to i order) in
    (below, omega (arith, above, l.range.within))

-- the line of the gap before token i is at most one more than the bytes before it
line_bounded : (text : List ℕ) (tokens : List Span) (from to begin i : ℕ) (at : Place) → IsLastLine text tokens from to begin at
    → at.line + count_by is_lf (slice_range text from (gap_from from tokens i)) ≤ 1 + gap_from from tokens i
line_bounded text tokens from to begin i at l =
    let gap : ℕ = gap_from from tokens i in
    let inside = gap_inside text tokens from to begin i at l in
    omega (arith, inside.0, count_by-le-length is_lf (slice_range text from gap), length-range text from gap inside.0 inside.1, l.range.bounded.line)

-- the place after the tokens from number i on, if token i is not after the last LF
line_begin : (text : List ℕ) (tokens : List Span) (from to begin i line : ℕ) (at : Place) → IsLastLine text tokens from to begin at → gap_from from tokens i < begin
    → line ≡ at.line + count_by is_lf (slice_range text from (gap_from from tokens i))
    → let start : Place = record { line = line; column = 1 } in
    place_after_pairs start (pairs_from text (gap_from from tokens i) (drop i tokens)) ≡ place_after_pairs at (pairs_from text from tokens)
line_begin text tokens from to begin i line at l before is =
    let gap : ℕ = gap_from from tokens i in
    let start : Place = record { line = line; column = 1 } in
    let order = l.range.order in
    let inside = gap_inside text tokens from to begin i at l in
    let marks = marks-split tokens i l.unmarked in
    let above = order-le (drop i tokens) gap to (order-drop tokens from to i order) in
    let reached : Place = place_after_pairs at (pairs_from text from (take i tokens)) in
    let parts = slice_range_split text from gap to inside.0 above in
    let rest : length (slice_range text gap to) ≡ to - gap = length-range text gap to above l.range.within in
    let longer : length (last_line (slice_range text from gap ++ slice_range text gap to)) < length (slice_range text gap to) =
    omega (arith, ap (λ (t : List ℕ). length (last_line t)) parts, l.ends, rest) in
    let same : start.line ≡ reached.line = is ∙ sym (range_line text (take i tokens) from gap at (order-take tokens from to i order) marks.0) in
    column_anew text (drop i tokens) gap to start reached (order-drop tokens from to i order) marks.1 (longer_than_line (slice_range text from gap) (slice_range text gap to) longer) same
    ∙ place_after_pairs-split text tokens from at i

line_rest : (text : List ℕ) (tokens : List Span) (from to begin i line : ℕ) (at : Place) → IsLastLine text tokens from to begin at
    → line ≡ at.line + count_by is_lf (slice_range text from (gap_from from tokens i))
    → IsTokenRange text (drop i tokens) (gap_from from tokens i) to (record { line = line; column = 1 })
line_rest text tokens from to begin i line at l is = record {
  order = order-drop tokens from to i l.range.order;
  within = l.range.within;
  short = l.range.short;
  utf8 = utf8-drop text tokens from i l.range.utf8;
  bounded = record { line = omega (arith, is, line_bounded text tokens from to begin i at l); column = omega arith };
}

-- what place_by_last_line counts from token i on, by the values that it has
pub along_last_line : (text : List ℕ) (tokens : List Span) (from to begin i gap count : ℕ) (at : Place) (bytes : List ℕ) → IsLastLine text tokens from to begin at
    → gap ≡ gap_from from tokens i → gap_from from tokens i < begin → bytes ≡ slice_range text from gap → count ≡ count_by is_lf bytes
    → IsAlong text tokens from at i gap (record { line = at.line + count; column = 1 })
along_last_line text tokens from to begin i gap count at bytes l e before b k =
    let line : at.line + count ≡ at.line + count_by is_lf (slice_range text from (gap_from from tokens i)) =
    ap (λ n. at.line + n) (k ∙ ap (count_by is_lf) (b ∙ ap (slice_range text from) e)) in
    let start : Place = record { line = at.line + count; column = 1 } in
    subst (λ n. IsAlong text tokens from at i n start) (sym e) (record {
      rest = (to, line_rest text tokens from to begin i (at.line + count) at l line);
      value = line_begin text tokens from to begin i (at.line + count) at l before line;
    })

-- all of the tokens stop at a byte or after it
abbrev Reach : ℕ → List Span → Type 0
Reach begin tokens = All (λ (token : Span). begin ≤ token.stop) tokens

-- a step back over one of them
pub reaching_some : (tokens : List Span) (from begin i at : ℕ) → from < begin → at ≡ gap_from from tokens i → begin ≤ at → 1 ≤ i
reaching_some tokens from begin zero at h e le = absurd (omega (arith, gap-first tokens from))
reaching_some tokens from begin (suc i) at h e le = omega arith

one_reaching : (tokens : List Span) (from begin i : ℕ) → begin ≤ gap_from from tokens (suc i) → suc i ≤ length tokens → Reach begin (drop (suc i) tokens) → Reach begin (drop i tokens)
one_reaching [] from begin i le h all = absurd (omega arith)
one_reaching (x ∷ tokens) from begin zero le h all = All-cons (λ (token : Span). begin ≤ token.stop) x tokens (omega (arith, gap-first tokens x.stop)) all
one_reaching (x ∷ tokens) from begin (suc i) le h all = one_reaching tokens x.stop begin i le (omega arith) all

pub reaching_more : (tokens : List Span) (from begin i at : ℕ) → from < begin → at ≡ gap_from from tokens i → begin ≤ at → i ≤ length tokens → Reach begin (drop i tokens)
    → (i - 1 ≤ length tokens) × Reach begin (drop (i - 1) tokens)
reaching_more tokens from begin zero at h e le n all = absurd (omega (arith, gap-first tokens from))
reaching_more tokens from begin (suc i) at h e le n all =
    let before : i ≡ suc i - 1 = omega arith in
    let more : Reach begin (drop i tokens) = one_reaching tokens from begin i (omega arith) n all in
    (omega arith, subst (λ k. Reach begin (drop k tokens)) before more)
