-- Tokens that are copied and then moved.
use Rattle.std.proofs.Common.{◌≡◌, ℕ, zero, suc, ◌+◌, ◌-◌, ◌<◌, ◌≤◌, List, [], ◌∷◌, ◌++◌, length, take, drop, get_or, slice_range, refl, sym, ap, ap₂, subst, ◌∙◌, arith, length-append, slice_set, take_all, take_at, drop_at}
use Rattle.std.specs.Prelude.{⊤}
use Rattle.std.proofs.lemmas.List.{append-nil, drop_all}
use Rattle.std.proofs.lemmas.List.Folds.{drop_split}
use Rattle.hcl_token.specs.declared.span.Span.{Span}
use Rattle.hcl_token.specs.TokenizedText.{TokenizedText}
use Rattle.hcl_token.specs.Pairs.{spans_from}
use Rattle.hcl_token.specs.Tokens.{Pair, whole_text}
use Rattle.hcl_scan.specs.Modes.{Mode, mode_of, modes_after}
use Rattle.hcl_scan.specs.Tokenization.{IsTokenization, MAX_TEXT}
use Rattle.hcl_scan.specs.Follows.{following_text, FollowsFrom}
use Rattle.hcl_scan.proofs.FollowingText.{lexeme_filled}
use Rattle.hcl_scan.proofs.MarkerLemmas.{markers_after, marker_of_mode}
use Rattle.hcl_scan.proofs.OpenMarkers.{HaveMarkers}
use Rattle.hcl_rescan.specs.Inner.WholeLines.{IsLineStart}
use Rattle.hcl_rescan.specs.Inner.MovedSpans.{moved_span, moved_spans, IsMovable, AreMovable}
use Rattle.hcl_rescan.proofs.LineLemmas.{place_in}

-- ---- moved in place, one after the other

-- the first tokens moved, the others as they were
abbrev pub moved_until : ℕ → ℕ → ℕ → List Span → List Span
moved_until from to k tokens = moved_spans from to (take k tokens) ++ drop k tokens

pub until_next : (from to k : ℕ) (tokens : List Span) (d : Span) → k < length tokens
    → slice_set (moved_until from to k tokens) k (moved_span from to (get_or tokens k d)) ≡ moved_until from to (suc k) tokens
until_next from to k [] d h = absurd (omega arith)
until_next from to zero (x ∷ tokens) d h = refl
until_next from to (suc k) (x ∷ tokens) d h = ap (λ (l : List Span). moved_span from to x ∷ l) (until_next from to k tokens d (omega arith))

pub until_here : (from to k : ℕ) (tokens : List Span) (d : Span) → k < length tokens → get_or (moved_until from to k tokens) k d ≡ get_or tokens k d
until_here from to k [] d h = absurd (omega arith)
until_here from to zero (x ∷ tokens) d h = refl
until_here from to (suc k) (x ∷ tokens) d h = until_here from to k tokens d (omega arith)

pub until_length : (from to k : ℕ) (tokens : List Span) → length (moved_until from to k tokens) ≡ length tokens
until_length from to zero tokens = refl
until_length from to (suc k) [] = refl
until_length from to (suc k) (x ∷ tokens) = ap suc (until_length from to k tokens)

pub until_all : (from to k : ℕ) (tokens : List Span) → length tokens ≤ k → moved_until from to k tokens ≡ moved_spans from to tokens
until_all from to zero [] h = refl
until_all from to (suc k) [] h = refl
until_all from to zero (x ∷ tokens) h = absurd (omega arith)
until_all from to (suc k) (x ∷ tokens) h = ap (λ (l : List Span). moved_span from to x ∷ l) (until_all from to k tokens (omega arith))

pub movable_at : (from to k : ℕ) (tokens : List Span) (d : Span) → AreMovable from to tokens → k < length tokens → IsMovable from to (get_or tokens k d)
movable_at from to k [] d m h = absurd (omega arith)
movable_at from to zero (x ∷ tokens) d m h = m.0
movable_at from to (suc k) (x ∷ tokens) d m h = movable_at from to k tokens d m.1 (omega arith)

-- ---- tokens by the lengths of their pairs

far_is : (p : Pair) (ps : List Pair) (at : ℕ) → at + length p.gap + length p.spelling + length (whole_text ps []) ≡ at + length (whole_text (p ∷ ps) [])
far_is p ps at = omega (arith, length-append p.gap (p.spelling ++ whole_text ps []), length-append p.spelling (whole_text ps []))

drop_tokens : (ps : List Pair) (i at : ℕ) → drop i (spans_from at ps) ≡ spans_from (at + length (whole_text (take i ps) [])) (drop i ps)
drop_tokens ps zero at =
    let same : at ≡ at + 0 = omega arith in
    ap (λ n. spans_from n ps) same
drop_tokens [] (suc i) at = refl
drop_tokens (p ∷ ps) (suc i) at =
    drop_tokens ps i (at + length p.gap + length p.spelling) ∙ ap (λ n. spans_from n (drop i ps)) (far_is p (take i ps) at)

take_tokens : (ps : List Pair) (n at : ℕ) → take n (spans_from at ps) ≡ spans_from at (take n ps)
take_tokens ps zero at = refl
take_tokens [] (suc n) at = refl
take_tokens (p ∷ ps) (suc n) at =
    ap (λ (l : List Span). record { start = at + length p.gap; stop = at + length p.gap + length p.spelling; kind = p.kind } ∷ l) (take_tokens ps n (at + length p.gap + length p.spelling))

span_is : (start stop other end : ℕ) (p : Pair) → start ≡ other → stop ≡ end
    → ◌≡◌ {A = Span} (record { start = start; stop = stop; kind = p.kind }) (record { start = other; stop = end; kind = p.kind })
span_is start stop other end p e f = ap₂ (λ x y. record { start = x; stop = y; kind = p.kind }) e f

shift_tokens : (from to x : ℕ) (ps : List Pair) → moved_spans from to (spans_from (from + x) ps) ≡ spans_from (to + x) ps
shift_tokens from to x [] = refl
shift_tokens from to x (p ∷ ps) =
    let gap : ℕ = length p.gap in
    let spelling : ℕ = length p.spelling in
    let start : to + (from + x + gap - from) ≡ to + x + gap = omega arith in
    let stop : to + (from + x + gap + spelling - from) ≡ to + x + gap + spelling = omega arith in
    let next : from + x + gap + spelling ≡ from + (x + gap + spelling) = omega arith in
    let there : to + (x + gap + spelling) ≡ to + x + gap + spelling = omega arith in
    ap₂ (λ (t : Span) (l : List Span). t ∷ l) (span_is _ _ _ _ p start stop)
    (ap (λ n. moved_spans from to (spans_from n ps)) next ∙ shift_tokens from to (x + gap + spelling) ps ∙ ap (λ n. spans_from n ps) there)

-- ---- they may be moved

abbrev AreFilled : List Pair → Type 0
AreFilled [] = ⊤
AreFilled (p ∷ ps) = (0 < length p.spelling) × AreFilled ps

all_filled : (ps rest : List Pair) (modes : List Mode) (last : List ℕ) → HaveMarkers modes → FollowsFrom modes (ps ++ rest) last [] → AreFilled ps
all_filled [] rest modes last m f = tt
all_filled (p ∷ ps) rest modes last m f = (
  lexeme_filled (mode_of modes) p.kind p.spelling (following_text (ps ++ rest) last) (marker_of_mode modes m) f.2,
  all_filled ps rest (modes_after p.kind p.spelling modes) last (markers_after p.kind p.spelling (following_text (ps ++ rest) last) modes f.2.1 m) f.4,
)

all_movable : (from to x : ℕ) (ps : List Pair) → AreFilled ps → to + x + length (whole_text ps []) ≤ MAX_TEXT → AreMovable from to (spans_from (from + x) ps)
all_movable from to x [] filled fits = tt
all_movable from to x (p ∷ ps) filled fits =
    let gap : ℕ = length p.gap in
    let spelling : ℕ = length p.spelling in
    let far : x + gap + spelling + length (whole_text ps []) ≡ x + length (whole_text (p ∷ ps) []) = far_is p ps x in
    let next : from + (x + gap + spelling) ≡ from + x + gap + spelling = omega arith in (
      record {
        start = omega arith;
        stop = omega arith;
        fits = omega (arith, filled.0);
        short = omega (arith, filled.0);
      },
      subst (λ n. AreMovable from to (spans_from n ps)) next (all_movable from to (x + gap + spelling) ps filled.1 (omega arith)),
    )

-- ---- the tokens of a stretch

pub stretch_is : (tokenized : TokenizedText) (from at to : ℕ) (spans : List Span) → IsLineStart tokenized from at → spans ≡ spans_from 0 tokenized.pairs → slice_range spans from to ≡ spans_from (at + 0) (slice_range tokenized.pairs from to)
stretch_is tokenized from at to spans f e =
    let place : 0 + length (whole_text (take from tokenized.pairs) []) ≡ at + 0 = omega (arith, f.place) in
    ap (λ (l : List Span). slice_range l from to) e
    ∙ ap (take (to - from)) (drop_tokens tokenized.pairs from 0 ∙ ap (λ n. spans_from n (drop from tokenized.pairs)) place)
    ∙ take_tokens (drop from tokenized.pairs) (to - from) (at + 0)

pub stretch_moved : (tokenized : TokenizedText) (from at to there : ℕ) (spans : List Span) → IsLineStart tokenized from at → spans ≡ spans_from 0 tokenized.pairs
    → moved_spans at there (slice_range spans from to) ≡ spans_from there (slice_range tokenized.pairs from to)
stretch_moved tokenized from at to there spans f e =
    let same : there + 0 ≡ there = omega arith in
    ap (moved_spans at there) (stretch_is tokenized from at to spans f e)
    ∙ shift_tokens at there 0 (slice_range tokenized.pairs from to)
    ∙ ap (λ n. spans_from n (slice_range tokenized.pairs from to)) same

pub stretch_movable : (tokenized : TokenizedText) (from at to there : ℕ) (spans : List Span) → IsLineStart tokenized from at → spans ≡ spans_from 0 tokenized.pairs → from ≤ to
    → there + length (whole_text (slice_range tokenized.pairs from to) []) ≤ MAX_TEXT → AreMovable at there (slice_range spans from to)
stretch_movable tokenized from at to there spans f e le fits =
    let ps : List Pair = slice_range tokenized.pairs from to in
    let split : drop from tokenized.pairs ≡ ps ++ drop to tokenized.pairs = drop_split tokenized.pairs from to le in
    let filled = all_filled ps (drop to tokenized.pairs) [] tokenized.last tt (subst (λ (x : List Pair). FollowsFrom [] x tokenized.last []) split f.rest.follow) in
    subst (AreMovable at there) (sym (stretch_is tokenized from at to spans f e)) (all_movable at there 0 ps filled (omega arith))

-- where a line begins
pub start_short : (tokenized : TokenizedText) (from at : ℕ) → IsTokenization tokenized.text tokenized.pairs tokenized.last → IsLineStart tokenized from at → at ≤ MAX_TEXT
start_short tokenized from at c f = omega (arith, f.place, place_in tokenized from c.tokenizes.text_is, c.short)

pub spans_length : (at : ℕ) (ps : List Pair) → length (spans_from at ps) ≡ length ps
spans_length at [] = refl
spans_length at (p ∷ ps) = ap suc (spans_length (at + length p.gap + length p.spelling) ps)

-- what follows others
pub range_after_prefix : (first more : List Span) → slice_range (first ++ more) (length first) (length (first ++ more)) ≡ more
range_after_prefix [] more = take_all (length more - 0) more (omega arith)
range_after_prefix (x ∷ first) more =
    let width : suc (length (first ++ more)) - suc (length first) ≡ length (first ++ more) - length first = omega arith in
    ap (λ n. take n (drop (length first) (first ++ more))) width ∙ range_after_prefix first more

pub range_after_prefix_at : (items first more : List Span) (begin len : ℕ) → items ≡ first ++ more → begin ≡ length first → len ≡ length items → slice_range items begin len ≡ more
range_after_prefix_at items first more begin len e b l =
    ap (λ (x : List Span). slice_range x begin len) e
    ∙ ap₂ (λ i n. slice_range (first ++ more) i n) b (l ∙ ap length e)
    ∙ range_after_prefix first more

pub moved_length : (from to : ℕ) (tokens : List Span) → length (moved_spans from to tokens) ≡ length tokens
moved_length from to [] = refl
moved_length from to (x ∷ tokens) = ap suc (moved_length from to tokens)

-- they are written over
pub written : (items first more new : List Span) (begin : ℕ) → items ≡ first ++ more → begin ≡ length first → length new ≡ length more
    → take begin items ++ (new ++ drop (length new) (drop begin items)) ≡ first ++ new
written items first more new begin e b same =
    let leading : take begin items ≡ first = ap₂ (λ n (x : List Span). take n x) b e ∙ take_at first more (length first) refl in
    let back : drop begin items ≡ more = ap₂ (λ n (x : List Span). drop n x) b e ∙ drop_at first more (length first) refl in
    let rest : drop (length new) (drop begin items) ≡ [] = ap (drop (length new)) back ∙ drop_all (length new) more (omega arith) in
    ap₂ (λ (x y : List Span). x ++ (new ++ y)) leading rest ∙ ap (λ (x : List Span). first ++ x) (append-nil new)
