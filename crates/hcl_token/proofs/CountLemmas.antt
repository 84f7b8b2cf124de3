-- Line feeds between two tokens give the line of the second by that of the first.
use Rattle.std.proofs.Common.{◌≡◌, ℕ, ◌+◌, ◌-◌, ◌≤◌, true, false, List, [], ◌∷◌, ◌++◌, take, drop, slice_get, slice_range, Some, count_by, refl, ap, subst, ◌∙◌, arith}
use Rattle.std.proofs.lemmas.List.Elements.{All-drop, All-head, All-tail, All-take}
use Rattle.hcl_token.specs.declared.place.Place.{Place}
use Rattle.hcl_token.specs.declared.span.Span.{Span}
use Rattle.hcl_token.specs.Tokens.{Pair, whole_text}
use Rattle.hcl_token.specs.Pairs.{pair_at, pairs_from, pairs_of, gap_at}
use Rattle.hcl_token.specs.Place.{MarksHaveNoLf, is_lf, is_mark, line_of}
use Rattle.hcl_token.specs.Inner.LineColumn.{IsOnLine, place_after_pair, place_after_pairs, first_place}
use Rattle.hcl_token.proofs.OrderLemmas.{order-slice, pairs-drop, pairs-take, text_is-slice}
use Rattle.hcl_token.proofs.LineLemmas.{count-append}
use Rattle.hcl_token.proofs.PlaceLemmas.{place_found}
use Rattle.hcl_token.proofs.TokenRangeLemmas.{place_after_pairs-slice}
use Rattle.hcl_token.proofs.LineColumnLemmas.{start_bounded}

-- all LFs of a pair count: those of a byte order mark would not
abbrev LfsCount : Pair → Type 0
LfsCount p = is_mark p.kind ≡ true → count_by is_lf p.spelling ≡ 0

-- the line after a pair, by the LFs of its gap and its spelling
counted_pair : (at : Place) (p : Pair) → LfsCount p → (place_after_pair at p).line ≡ at.line + count_by is_lf p.gap + count_by is_lf p.spelling
counted_pair at p counts =
    elim (is_mark p.kind) as (λ v. is_mark p.kind ≡ v → (place_after_pair at p).line ≡ at.line + count_by is_lf p.gap + count_by is_lf p.spelling) [
      | true ↦ λ e. rw e (omega (arith, counts e))
      | false ↦ λ e. rw e refl
    ] refl

counted_over : (text : List ℕ) (tokens : List Span) (from : ℕ) (at : Place) → MarksHaveNoLf (pairs_from text from tokens)
    → (place_after_pairs at (pairs_from text from tokens)).line ≡ at.line + count_by is_lf (whole_text (pairs_from text from tokens) [])
counted_over text [] from at marks = omega arith
counted_over text (x ∷ tokens) from at marks =
    let gap : List ℕ = slice_range text from x.start in
    let spelling : List ℕ = slice_range text x.start x.stop in
    let rest : List ℕ = whole_text (pairs_from text x.stop tokens) [] in
    let pair : Pair = pair_at text from x in
    let pairs : List Pair = pairs_from text x.stop tokens in
    omega (
      arith,
      counted_over text tokens x.stop (place_after_pair at pair) (All-tail LfsCount pair pairs marks),
      counted_pair at pair (All-head LfsCount pair pairs marks),
      count-append gap (spelling ++ rest),
      count-append spelling rest,
    )

marks-slice : (text : List ℕ) (tokens : List Span) (from to : ℕ) → MarksHaveNoLf (pairs_of text tokens)
    → MarksHaveNoLf (pairs_from text (gap_at tokens from) (slice_range tokens from to))
marks-slice text tokens from to marks =
    let at : ℕ = gap_at tokens from in
    let after_from = subst MarksHaveNoLf (pairs-drop text tokens 0 from) (All-drop LfsCount from (pairs_of text tokens) marks) in
    subst MarksHaveNoLf (pairs-take text (drop from tokens) at (to - from)) (All-take LfsCount (to - from) (pairs_from text at (drop from tokens)) after_from)

pub line_over : (text : List ℕ) (tokens : List Span) (last from to line : ℕ) → IsOnLine text tokens last from line → from ≤ to
    → line + count_by is_lf (slice_range text (gap_at tokens from) (gap_at tokens to)) ≡ (place_after_pairs first_place (take to (pairs_of text tokens))).line
line_over text tokens last from to line o le =
    let at : Place = place_after_pairs first_place (take from (pairs_of text tokens)) in
    let within : List Span = slice_range tokens from to in
    let end : from + (to - from) ≡ to = omega arith in
    let bytes = ap (count_by is_lf) (text_is-slice text within (gap_at tokens from) (gap_at tokens to) (order-slice tokens 0 last from to o.ordered.order le)) in
    let whole = ap (λ (p : Place). p.line) (place_after_pairs-slice text tokens 0 first_place from (to - from) ∙ ap (λ n. place_after_pairs first_place (take n (pairs_of text tokens))) end) in
    omega (arith, o.is, counted_over text within (gap_at tokens from) at (marks-slice text tokens from to o.marks), bytes, whole)

pub line_found : (text : List ℕ) (tokens : List Span) (last i line : ℕ) (token : Span) → IsOnLine text tokens last i line
    → slice_get (pairs_of text tokens) i ≡ Some (pair_at text (gap_at tokens i) token)
    → line + count_by is_lf (slice_range text (gap_at tokens i) token.start) ≡ line_of (pairs_of text tokens) i
line_found text tokens last i line token o pair =
    let found = ap (λ (p : Place). p.line) (place_found (pairs_of text tokens) i (pair_at text (gap_at tokens i) token) pair) in
    omega (arith, o.is, found)

-- a line is no further than the bytes before it
pub line_reached : (text : List ℕ) (tokens : List Span) (last i line : ℕ) → IsOnLine text tokens last i line → line ≤ 1 + gap_at tokens i
line_reached text tokens last i line o = omega (arith, o.is, (start_bounded text tokens last i o.ordered).line)
