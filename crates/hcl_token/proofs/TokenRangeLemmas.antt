-- Going over the tokens of a stretch of text.
use Rattle.std.proofs.Common.{◌≡◌, ℕ, zero, suc, ◌+◌, ◌<◌, ◌≤◌, true, false, List, [], ◌∷◌, ◌++◌, length, take, drop, get_or, slice_range, refl, sym, ap, subst, ◌∙◌, arith}
use Rattle.std.proofs.lemmas.Bool.{or_parts}
use Rattle.std.proofs.lemmas.List.{drop_more, drop_all}
use Rattle.hcl_token.specs.declared.place.Place.{Place}
use Rattle.hcl_token.specs.declared.span.Span.{Span}
use Rattle.hcl_token.specs.Tokens.{whole_text}
use Rattle.hcl_token.specs.Pairs.{pair_at, pairs_from, gap_from}
use Rattle.hcl_token.specs.Place.{is_mark, last_line}
use Rattle.hcl_token.specs.Inner.AsciiText.{is_ascii_without_cr}
use Rattle.hcl_token.specs.Inner.LineColumn.{IsPlaceBounded, IsTokenRange, place_after_piece, place_after_pair, place_after_pairs, has_mark}
use Rattle.hcl_token.proofs.OrderLemmas.{order-le, pairs-take}
use Rattle.hcl_token.proofs.PlaceLemmas.{ascii_last_line, place_after_piece-nil, place_after_piece-append}

-- the first token of a stretch, and the others
pub range_first : (text : List ℕ) (x : Span) (tokens : List Span) (from to : ℕ) (at : Place) → IsTokenRange text (x ∷ tokens) from to at → IsTokenRange text (x ∷ []) from x.stop at
range_first text x tokens from to at s = record {
  order = (s.order.0, s.order.1, refl);
  within = omega (arith, order-le tokens x.stop to s.order.2, s.within);
  short = s.short;
  utf8 = (s.utf8.0, s.utf8.1, tt);
  bounded = s.bounded;
}

pub range_others : (text : List ℕ) (x : Span) (tokens : List Span) (from to : ℕ) (at following : Place) → IsTokenRange text (x ∷ tokens) from to at → IsPlaceBounded following x.stop → IsTokenRange text tokens x.stop to following
range_others text x tokens from to at following s reached = record {
  order = s.order.2;
  within = s.within;
  short = s.short;
  utf8 = s.utf8.2;
  bounded = reached;
}

-- the tokens from number i on are left: the gap before them begins at `from`, which is this place
pub record IsAlong (text : List ℕ) (tokens : List Span) (begin : ℕ) (start : Place) (i from : ℕ) (at : Place) : Type 0 where
  pub rest : (to : ℕ) × IsTokenRange text (drop i tokens) from to at
  pub value : place_after_pairs at (pairs_from text from (drop i tokens)) ≡ place_after_pairs start (pairs_from text begin tokens)

-- token i, and those after it
split_at : (tokens : List Span) (i : ℕ) (token : Span) → i < length tokens → token ≡ get_or tokens i token → drop i tokens ≡ token ∷ drop (i + 1) tokens
split_at tokens i token h is = drop_more tokens i token h ∙ ap (λ (x : Span). x ∷ drop (i + 1) tokens) (sym is)

pub along_first : (text : List ℕ) (tokens : List Span) (begin : ℕ) (start : Place) (i from : ℕ) (at : Place) (token : Span) → i < length tokens → token ≡ get_or tokens i token
    → IsAlong text tokens begin start i from at → IsTokenRange text (token ∷ []) from token.stop at
along_first text tokens begin start i from at token h is a =
    let (to, s) = a.rest in
    range_first text token (drop (i + 1) tokens) from to at (subst (λ (l : List Span). IsTokenRange text l from to at) (split_at tokens i token h is) s)

pub along_step : (text : List ℕ) (tokens : List Span) (begin : ℕ) (start : Place) (i from : ℕ) (at : Place) (token : Span) (following : Place) → i < length tokens → token ≡ get_or tokens i token
    → IsAlong text tokens begin start i from at → following ≡ place_after_pair at (pair_at text from token) → IsPlaceBounded following token.stop
    → IsAlong text tokens begin start (i + 1) token.stop following
along_step text tokens begin start i from at token following h is a e reached =
    let (to, s) = a.rest in
    let split : drop i tokens ≡ token ∷ drop (i + 1) tokens = split_at tokens i token h is in
    record {
      rest = (to, range_others text token (drop (i + 1) tokens) from to at following (subst (λ (l : List Span). IsTokenRange text l from to at) split s) reached);
      value = ap (λ (p : Place). place_after_pairs p (pairs_from text token.stop (drop (i + 1) tokens))) e
          ∙ ap (λ (l : List Span). place_after_pairs at (pairs_from text from l)) (sym split)
          ∙ a.value;
    }

pub along_end : (text : List ℕ) (tokens : List Span) (begin : ℕ) (start : Place) (i from : ℕ) (at : Place) → length tokens ≤ i → IsAlong text tokens begin start i from at
    → at ≡ place_after_pairs start (pairs_from text begin tokens)
along_end text tokens begin start i from at h a =
    sym (ap (λ (l : List Span). place_after_pairs at (pairs_from text from l)) (drop_all i tokens h)) ∙ a.value

-- tokens without a byte order mark are as one piece if their last line is plain
pub ascii_range : (text : List ℕ) (tokens : List Span) (from : ℕ) (at : Place) → is_ascii_without_cr (last_line (whole_text (pairs_from text from tokens) [])) ≡ true → has_mark tokens ≡ false
    → place_after_pairs at (pairs_from text from tokens) ≡ place_after_piece at (whole_text (pairs_from text from tokens) [])
ascii_range text [] from at plain none = sym (place_after_piece-nil at)
ascii_range text (x ∷ tokens) from at plain none =
    let gap : List ℕ = slice_range text from x.start in
    let spelling : List ℕ = slice_range text x.start x.stop in
    let rest : List ℕ = whole_text (pairs_from text x.stop tokens) [] in
    let marks = or_parts (is_mark x.kind) (has_mark tokens) none in
    let after_gap = ascii_last_line gap (spelling ++ rest) plain in
    let pair : place_after_pair at (pair_at text from x) ≡ place_after_piece (place_after_piece at gap) spelling = rw marks.0 refl in
    ap (λ (p : Place). place_after_pairs p (pairs_from text x.stop tokens)) pair
    ∙ ascii_range text tokens x.stop (place_after_piece (place_after_piece at gap) spelling) (ascii_last_line spelling rest after_gap) marks.1
    ∙ place_after_piece-append (place_after_piece at gap) spelling rest after_gap
    ∙ place_after_piece-append at gap (spelling ++ rest) plain

take-nil : (n : ℕ) → take {A = Span} n [] ≡ []
take-nil zero = refl
take-nil (suc n) = refl

-- a stretch, and the one that follows it
pub place_after_pairs-slice : (text : List ℕ) (tokens : List Span) (begin : ℕ) (at : Place) (from n : ℕ)
    → place_after_pairs (place_after_pairs at (take from (pairs_from text begin tokens))) (pairs_from text (gap_from begin tokens from) (take n (drop from tokens)))
    ≡ place_after_pairs at (take (from + n) (pairs_from text begin tokens))
place_after_pairs-slice text [] begin at zero n =
    ap (place_after_pairs at) (sym (pairs-take text [] begin n))
    ∙ ap (λ k. place_after_pairs at (take k (pairs_from text begin []))) (omega arith)
place_after_pairs-slice text (x ∷ tokens) begin at zero n =
    ap (place_after_pairs at) (sym (pairs-take text (x ∷ tokens) begin n))
    ∙ ap (λ k. place_after_pairs at (take k (pairs_from text begin (x ∷ tokens)))) (omega arith)
place_after_pairs-slice text [] begin at (suc from) n =
    let more : suc (from + n) ≡ suc from + n = omega arith in
    ap (λ (l : List Span). place_after_pairs at (pairs_from text begin l)) (take-nil n) ∙ ap (λ k. place_after_pairs at (take k (pairs_from text begin []))) more
place_after_pairs-slice text (x ∷ tokens) begin at (suc from) n =
    let more : suc (from + n) ≡ suc from + n = omega arith in
    place_after_pairs-slice text tokens x.stop (place_after_pair at (pair_at text begin x)) from n ∙ ap (λ k. place_after_pairs at (take k (pairs_from text begin (x ∷ tokens)))) more

-- a stretch by its first tokens and the others
pub place_after_pairs-split : (text : List ℕ) (tokens : List Span) (begin : ℕ) (at : Place) (i : ℕ)
    → place_after_pairs (place_after_pairs at (pairs_from text begin (take i tokens))) (pairs_from text (gap_from begin tokens i) (drop i tokens))
    ≡ place_after_pairs at (pairs_from text begin tokens)
place_after_pairs-split text [] begin at zero = refl
place_after_pairs-split text [] begin at (suc i) = refl
place_after_pairs-split text (x ∷ tokens) begin at zero = refl
place_after_pairs-split text (x ∷ tokens) begin at (suc i) = place_after_pairs-split text tokens x.stop (place_after_pair at (pair_at text begin x)) i
