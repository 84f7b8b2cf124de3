-- Heredocs at a place of a text.
use Rattle.std.proofs.Common.{◌≡◌, ℕ, ◌+◌, ◌-◌, ◌<◌, ◌≤◌, Bool, true, false, ◌&&◌, ◌==◌, if◌then◌else◌, List, [], ◌∷◌, ◌++◌, length, take, drop, slice_index, IsUtf8, Some, None, slice_range, refl, sym, ap, subst, ◌∙◌, arith, length-append, length-drop, drop-drop, get_or-drop}
use Rattle.std.proofs.lemmas.List.{at_drop_more}
use Rattle.std.proofs.lemmas.Bool.{cond_both, and_parts, eqb-true, false≢true}
use Rattle.std.specs.List.{starts_with}
use Rattle.hcl_token.specs.declared.kind.Kind.{Kind}
use Rattle.hcl_scan.specs.Characters.{is_prefix_of, is_sigil, sigil_length}
use Rattle.hcl_scan.specs.Closing.{is_closing_line, heredoc_unit}
use Rattle.hcl_scan.specs.Inner.LexemeStarts.{LexedToken, is_word_start, identifier}
use Rattle.hcl_scan.specs.Inner.HeredocToken.{heredoc_start_length, is_at_heredoc_start}
use Rattle.hcl_scan.specs.Inner.RunLength.{run_length}
use Rattle.hcl_scan.proofs.TextLemmas.{first_1, first_2, utf8_tail}
use Rattle.hcl_scan.proofs.HeredocLemmas.{identifier_some}
use Rattle.hcl_scan.proofs.HeredocSound.{WordSplit, Words, words}

-- whether a marker is at the start, as std states it
pub starts_with_bytes : (name t : List ℕ) → starts_with (λ a b. a == b) t name ≡ is_prefix_of name t
starts_with_bytes [] [] = refl
starts_with_bytes [] (b ∷ t) = refl
starts_with_bytes (m ∷ ms) [] = refl
starts_with_bytes (m ∷ ms) (b ∷ t) = ap (λ x. m == b && x) (starts_with_bytes ms t)

pub part_to_end : (text : List ℕ) (at : ℕ) → slice_range text at (length text) ≡ drop at text
part_to_end text at = ap (λ n. take n (drop at text)) (sym (length-drop {A = ℕ} at text)) ∙ take_whole (drop at text)
  where
    take_whole : (t : List ℕ) → take (length t) t ≡ t
    take_whole [] = refl
    take_whole (b ∷ t) = ap (λ (x : List ℕ). b ∷ x) (take_whole t)

-- the unit at a place, by the byte there
pub heredoc_unit_at : (name text : List ℕ) (at : ℕ) (at_line_start : Bool) → at < length text
    → heredoc_unit name at_line_start (drop at text) ≡ (
    if at_line_start && is_closing_line name (drop at text) then 0
    else (if is_sigil (slice_index text at) then sigil_length (slice_index text at) (drop (at + 1) text) else 1)
    )
heredoc_unit_at name text at at_line_start h =
    at_drop_more (heredoc_unit name at_line_start) text at 0 h
    ∙ ap (λ (t : List ℕ). if at_line_start && is_closing_line name t then 0
    else (if is_sigil (slice_index text at) then sigil_length (slice_index text at) (drop (at + 1) text) else 1)) (sym (at_drop_more (λ t. t) text at 0 h))

-- ---- the marker of an opening

word_first : (t : List ℕ) (n : ℕ) → WordSplit t n → is_word_start (slice_index t 0) ≡ true
word_first t n w =
    let word = identifier_some w.name w.is in
    ap is_word_start (ap (λ (x : List ℕ). slice_index x 0) w.text_is ∙ first w.name w.rest word.0) ∙ word.1
  where
    first : (xs ys : List ℕ) → 0 < length xs → slice_index (xs ++ ys) 0 ≡ slice_index xs 0
    first [] ys h = absurd (omega arith)
    first (x ∷ xs) ys h = refl

none_at : (t : List ℕ) (found : LexedToken) → Words t found → is_word_start (slice_index t 0) ≡ false → found ≡ None
none_at t None words h = refl
none_at t (Some f) words h = absurd (false≢true (sym h ∙ word_first t f.1 words.0))

-- where no word begins there is no identifier
pub identifier_none : (text : List ℕ) (at : ℕ) → IsUtf8 (drop at text) → is_word_start (slice_index text at) ≡ false → identifier (drop at text) ≡ None
identifier_none text at u h =
    none_at (drop at text) (identifier (drop at text)) (words (drop at text) u) (ap is_word_start (get_or-drop at text 0 0 ∙ ap (slice_index text) (omega arith)) ∙ h)

fits_at : (t : List ℕ) (found : LexedToken) → Words t found → (kind : Kind) (n : ℕ) → found ≡ Some (kind, n) → n ≤ length t
fits_at t None words kind n e = absurd (cc)
fits_at t (Some f) words kind n e =
    let w : WordSplit t f.1 = words.0 in
    let same : Some f ≡ Some (kind, n) = e in
    let size : f.1 ≡ n = ap (λ (p : Kind × ℕ). p.1) (some_same f (kind, n) same) in
    omega (arith, ap length w.text_is, length-append w.name w.rest, w.len)
  where
    some_same : (p q : Kind × ℕ) → Some p ≡ Some q → p ≡ q
    some_same p q e = cc

-- an identifier ends within the text
pub identifier_fits : (text : List ℕ) (at : ℕ) (kind : Kind) (n : ℕ) → IsUtf8 (drop at text) → at ≤ length text → identifier (drop at text) ≡ Some (kind, n) → at + n ≤ length text
identifier_fits text at kind n u within e =
    let size : length (drop at text) ≡ length text - at = length-drop {A = ℕ} at text in
    omega (arith, fits_at (drop at text) (identifier (drop at text)) (words (drop at text) u) kind n e, size)

-- after `<<` or `<<-` the text is UTF-8
pub utf8_after_intro : (text : List ℕ) (at n : ℕ) → is_at_heredoc_start (drop at text) ≡ true → n ≡ heredoc_start_length (drop at text) → IsUtf8 (drop at text) → IsUtf8 (drop (at + n) text)
utf8_after_intro text at n h e u =
    let t : List ℕ = drop at text in
    let both = and_parts (slice_index t 0 == 60) (slice_index t 1 == 60) h in
    let leading : t ≡ 60 ∷ 60 ∷ drop 2 t = first_2 t 60 60 (eqb-true (slice_index t 0) 60 both.0) (eqb-true (slice_index t 1) 60 both.1) (omega arith) (omega arith) in
    let u2 : IsUtf8 (drop 2 t) = utf8_tail 60 (drop 2 t) (omega arith) (utf8_tail 60 (60 ∷ drop 2 t) (omega arith) (subst IsUtf8 leading u)) in
    let following : IsUtf8 (drop (heredoc_start_length t) t) = cond_both (slice_index t 2 == 45) 3 2 (λ k. IsUtf8 (drop k t))
    (λ k.
    let third : slice_index (drop 2 t) 0 ≡ 45 = get_or-drop 2 t 0 0 ∙ eqb-true (slice_index t 2) 45 k in
    let more : drop 2 t ≡ 45 ∷ drop 3 t = first_1 (drop 2 t) 45 third (omega arith) ∙ ap (λ (x : List ℕ). 45 ∷ x) (drop-drop 1 2 t) in
    utf8_tail 45 (drop 3 t) (omega arith) (subst IsUtf8 more u2))
    (λ _. u2) in
    subst IsUtf8 (drop-drop (heredoc_start_length t) at text ∙ ap (λ k. drop (at + k) text) (sym e)) following

-- ---- the text of a heredoc

-- where the heredoc closes, no text begins
pub run_length-closing : (name : List ℕ) (at_line_start : Bool) (t : List ℕ) → (at_line_start && is_closing_line name t) ≡ true → run_length (heredoc_unit name) at_line_start t ≡ 0
run_length-closing name at_line_start [] h = refl
run_length-closing name at_line_start (b ∷ t) h = rw h refl

-- elsewhere it goes on as if no line began
pub run_length-open : (name : List ℕ) (at_line_start : Bool) (t : List ℕ) → (at_line_start && is_closing_line name t) ≡ false
    → run_length (heredoc_unit name) at_line_start t ≡ run_length (heredoc_unit name) false t
run_length-open name at_line_start [] h = refl
run_length-open name at_line_start (b ∷ t) h = rw h refl

-- a line end is a unit where no line begins
pub line_feed_unit : (name text : List ℕ) (at : ℕ) → at < length text → slice_index text at ≡ 10 → heredoc_unit name false (drop at text) ≡ 1
line_feed_unit name text at h is = rw (heredoc_unit_at name text at false h, is) refl
