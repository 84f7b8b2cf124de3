-- Heredocs: markers, closing lines in both directions, and what is where a unit begins or does not.
use Rattle.std.proofs.Common.{◌≡◌, ℕ, ◌+◌, ◌<◌, Bool, true, false, ◌&&◌, ◌==◌, List, [], ◌∷◌, ◌++◌, length, take, drop, slice_index, IsUtf8, IsCharBoundary, refl, sym, ap, ap₂, subst, ◌∙◌, ◌⊎◌, inl, inr, arith, append_assoc, length-append, drop_at, length-take-le, take-append-drop, get_or-append-add, encode_utf8, encode_utf8_all}
use Rattle.std.proofs.lemmas.Bool.{cond_both, and_parts, eqb-true, eq-eqb, ne_eqb, cases_lt, false_from_ne_true}
use Rattle.std.proofs.lemmas.Bool.Decides.{nat_tests}
use Rattle.std.proofs.lemmas.List.Sums.{prefix_len-le-length}
use Rattle.std.proofs.lemmas.Str.{encodes-chars, length-encode, char_from_byte, len_utf8_bounds, IsUtf8-drop, IsCharBoundary-start}
use Rattle.std.specs.Cmp.Derive.{both_true}
use Rattle.std.specs.Char.{len_utf8}
use Rattle.std.specs.List.{list_all, prefix_len}
use Rattle.std.specs.Str.{chars}
use Rattle.unicode_ident.proofs.IdentLemmas.{is_xid_start-ascii}
use Rattle.hcl_scan.specs.Characters.{is_whitespace, is_prefix_of, is_id_start, is_id_continue, is_sigil}
use Rattle.hcl_scan.specs.Closing.{is_at_line_end_or_eof, after_marker, is_closing_line, IsClosingLine, heredoc_unit}
use Rattle.hcl_scan.specs.Lexeme.{is_identifier, IsIdentifier}
use Rattle.hcl_scan.specs.Inner.LexemeStarts.{is_word_start, is_at_opening}
use Rattle.hcl_scan.specs.Inner.HeredocToken.{closing_line_length}
use Rattle.hcl_scan.proofs.Pieces.{prefix_all}
use Rattle.hcl_scan.proofs.TextLemmas.{utf8_rest}

-- ---- the longest piece of a text whose bytes all pass

pub prefix_adds : (p : ℕ → Bool) (xs ys : List ℕ) → list_all p xs ≡ true → prefix_len p (xs ++ ys) ≡ length xs + prefix_len p ys
prefix_adds p [] ys h = omega arith
prefix_adds p (x ∷ xs) ys h =
    let both = and_parts (p x) (list_all p xs) h in
    let rec : prefix_len p (xs ++ ys) ≡ length xs + prefix_len p ys = prefix_adds p xs ys both.1 in
    rw both.0 (omega arith)

pub prefix_none : (p : ℕ → Bool) (t more : List ℕ) → 0 < length t → p (slice_index t 0) ≡ false → prefix_len p (t ++ more) ≡ 0
prefix_none p [] more some h = absurd (omega arith)
prefix_none p (b ∷ t) more some h = rw h refl

-- ---- markers

-- what may begin an identifier begins with a byte of a word
pub starts_word : (c : ℕ) (more : List ℕ) → is_id_start c ≡ true → is_word_start (slice_index (encode_utf8 c ++ more) 0) ≡ true
starts_word c more h =
    elim (cases_lt (slice_index (encode_utf8 c ++ more) 0) 128) [
      | inr high ↦ (let b : ℕ = slice_index (encode_utf8 c ++ more) 0 in grind (arith, nat_tests))
      | inl low ↦
          let size : length (encode_utf8 c ++ more) ≡ len_utf8 c + length more = length-append (encode_utf8 c) more ∙ ap (λ n. n + length more) (length-encode c) in
          let some : 0 < length (encode_utf8 c ++ more) = omega (arith, (len_utf8_bounds c).0) in
          let same : c ≡ slice_index (encode_utf8 c ++ more) 0 = char_from_byte (encode_utf8 c ++ more) more c refl low some in
          let ascii : c < 128 = omega arith in
          let letter = rw (is_xid_start-ascii c ascii) at h in
          rw (← same) (grind (arith, nat_tests))
    ]

word_some : (cs : List ℕ) → is_identifier cs ≡ true → (0 < length (encode_utf8_all cs)) × (is_word_start (slice_index (encode_utf8_all cs) 0) ≡ true)
word_some [] h = absurd (cc)
word_some (c ∷ cs) h =
    let size : length (encode_utf8_all (c ∷ cs)) ≡ len_utf8 c + length (encode_utf8_all cs) =
    length-append (encode_utf8 c) (encode_utf8_all cs) ∙ ap (λ n. n + length (encode_utf8_all cs)) (length-encode c) in
    (omega (arith, (len_utf8_bounds c).0), starts_word c (encode_utf8_all cs) (and_parts (is_id_start c) (list_all is_id_continue cs) h).0)

-- an identifier is not empty, and begins with a byte of a word
pub identifier_some : (name : List ℕ) → IsIdentifier name → (0 < length name) × (is_word_start (slice_index name 0) ≡ true)
identifier_some name (u, h) = rw (encodes-chars name u) at (word_some (chars name) h)

pub word_no_whitespace : (b : ℕ) → is_word_start b ≡ true → is_whitespace b ≡ false
word_no_whitespace b h = grind (arith, nat_tests)

pub word_no_sigil : (b : ℕ) → is_word_start b ≡ true → is_sigil b ≡ false
word_no_sigil b h = grind (arith, nat_tests)

-- ---- closing lines

begins_marker : (name rest : List ℕ) → is_prefix_of name (name ++ rest) ≡ true
begins_marker [] rest = refl
begins_marker (m ∷ ms) rest = both_true (eq-eqb m m refl) (begins_marker ms rest)

pub marker_at : (name t : List ℕ) → is_prefix_of name t ≡ true → t ≡ name ++ drop (length name) t
marker_at [] t h = refl
marker_at (m ∷ ms) [] h = absurd (cc)
marker_at (m ∷ ms) (b ∷ t) h =
    let both = and_parts (m == b) (is_prefix_of ms t) h in
    ap₂ (λ x (xs : List ℕ). x ∷ xs) (sym (eqb-true m b both.0)) (marker_at ms t both.1)

-- no blank begins a line end
ends_no_whitespace : (t : List ℕ) → is_at_line_end_or_eof t ≡ true → prefix_len is_whitespace t ≡ 0
ends_no_whitespace [] h = refl
ends_no_whitespace (b ∷ t) h =
    cond_both (is_whitespace b) (1 + prefix_len is_whitespace t) 0 (λ n. n ≡ 0) (λ k. absurd (grind (arith, nat_tests))) (λ _. refl)

pub ends_ascii : (t : List ℕ) → is_at_line_end_or_eof t ≡ true → slice_index t 0 < 128
ends_ascii [] h = omega arith
ends_ascii (b ∷ t) h = grind (arith, nat_tests)

-- a closing line is found, with its length
pub close_found : (name s rest : List ℕ) → IsIdentifier name → IsClosingLine name s rest
    → (is_closing_line name (s ++ rest) ≡ true) × (closing_line_length name (s ++ rest) ≡ length s)
close_found name s rest ident (before, following, e, all, all', ends) =
    let word = identifier_some name ident in
    let first : is_whitespace (slice_index name 0) ≡ false = word_no_whitespace (slice_index name 0) word.1 in
    let t : List ℕ = s ++ rest in
    let tail : List ℕ = following ++ rest in
    let split : t ≡ before ++ (name ++ tail) =
    ap (λ (x : List ℕ). x ++ rest) e ∙ append_assoc before (name ++ following) rest ∙ ap (λ (x : List ℕ). before ++ x) (append_assoc name following rest) in
    let width : prefix_len is_whitespace t ≡ length before =
    ap (prefix_len is_whitespace) split ∙ prefix_adds is_whitespace before (name ++ tail) all ∙ omega (arith, prefix_none is_whitespace name tail word.0 first) in
    let middle : drop (prefix_len is_whitespace t) t ≡ name ++ tail = ap₂ drop width split ∙ drop_at before (name ++ tail) (length before) refl in
    let last : after_marker name t ≡ tail = ap (drop (length name)) middle ∙ drop_at name tail (length name) refl in
    let width' : prefix_len is_whitespace tail ≡ length following = prefix_adds is_whitespace following rest all' ∙ omega (arith, ends_no_whitespace rest ends) in
    let finish : drop (prefix_len is_whitespace (after_marker name t)) (after_marker name t) ≡ rest =
    ap₂ drop (ap (prefix_len is_whitespace) last ∙ width') last ∙ drop_at following rest (length following) refl in (
      both_true (ap (is_prefix_of name) middle ∙ begins_marker name tail) (ap is_at_line_end_or_eof finish ∙ ends),
      omega (arith, width, ap (prefix_len is_whitespace) last, width', ap length e, length-append before (name ++ following), length-append name following),
    )

-- what is found is a closing line
pub record CloseSplit (name t : List ℕ) : Type 0 where
  pub spelling : List ℕ
  pub rest : List ℕ
  pub text_is : t ≡ spelling ++ rest
  pub len : length spelling ≡ closing_line_length name t
  pub close : IsClosingLine name spelling rest
  pub ends : is_at_line_end_or_eof rest ≡ true

pub close_split : (name t : List ℕ) → is_closing_line name t ≡ true → CloseSplit name t
close_split name t h =
    let n : ℕ = prefix_len is_whitespace t in
    let middle : List ℕ = drop n t in
    let tail : List ℕ = after_marker name t in
    let m : ℕ = prefix_len is_whitespace tail in
    let both = and_parts (is_prefix_of name middle) (is_at_line_end_or_eof (drop m tail)) h in
    let before : List ℕ = take n t in
    let following : List ℕ = take m tail in
    let rest : List ℕ = drop m tail in
    let outer : t ≡ before ++ middle = sym (take-append-drop n t) in
    let inner : middle ≡ name ++ tail = marker_at name middle both.0 in
    let last : tail ≡ following ++ rest = sym (take-append-drop m tail) in
    let whole : t ≡ (before ++ (name ++ following)) ++ rest =
    outer ∙ ap (λ (x : List ℕ). before ++ x) (inner ∙ ap (λ (x : List ℕ). name ++ x) last ∙ sym (append_assoc name following rest)) ∙ sym (append_assoc before (name ++ following) rest) in
    record {
      spelling = before ++ (name ++ following);
      rest = rest;
      text_is = whole;
      len = length-append before (name ++ following) ∙ omega (arith, length-append name following, length-take-le n t (prefix_len-le-length is_whitespace t), length-take-le m tail (prefix_len-le-length is_whitespace tail));
      close = (before, following, refl, prefix_all is_whitespace t, prefix_all is_whitespace tail, both.1);
      ends = both.1;
    }

-- a closing line begins with a blank or as its marker does
pub closing_prefix : (name t : List ℕ) → 0 < length name → is_closing_line name t ≡ true
    → (is_whitespace (slice_index t 0) ≡ true) ⊎ (slice_index t 0 ≡ slice_index name 0)
closing_prefix [] t some h = absurd (omega arith)
closing_prefix (m ∷ ms) [] some h = absurd (cc)
closing_prefix (m ∷ ms) (b ∷ t) some h =
    elim (is_whitespace b) as (λ x. is_whitespace b ≡ x → (is_whitespace b ≡ true) ⊎ (b ≡ m)) [
      | true ↦ λ e. inl e
      | false ↦ λ e.
          let none : prefix_len is_whitespace (b ∷ t) ≡ 0 = rw e refl in
          let at : is_prefix_of (m ∷ ms) (drop (prefix_len is_whitespace (b ∷ t)) (b ∷ t)) ≡ true = (and_parts (is_prefix_of (m ∷ ms) (drop (prefix_len is_whitespace (b ∷ t)) (b ∷ t))) _ h).0 in
          let here : is_prefix_of (m ∷ ms) (b ∷ t) ≡ true = subst (λ n. is_prefix_of (m ∷ ms) (drop n (b ∷ t)) ≡ true) none at in
          inr (sym (eqb-true m b (and_parts (m == b) (is_prefix_of ms t) here).0))
    ] refl

-- no opening begins at a closing line
pub closing_no_opening : (name t : List ℕ) → IsIdentifier name → is_closing_line name t ≡ true → is_sigil (slice_index t 0) ≡ false
closing_no_opening name t ident h =
    let word = identifier_some name ident in
    elim (closing_prefix name t word.0 h) [
      | inl is_white ↦ (let b : ℕ = slice_index t 0 in grind (arith, nat_tests))
      | inr same ↦ ap is_sigil same ∙ word_no_sigil (slice_index name 0) word.1
    ]

-- ---- units

-- where a unit begins, no closing line does, and no opening
pub unit_begins : (name : List ℕ) (at_line_start : Bool) (t : List ℕ) → 0 < heredoc_unit name at_line_start t
    → ((at_line_start && is_closing_line name t) ≡ false) × (is_at_opening t ≡ false)
unit_begins name at_line_start [] h = absurd (omega arith)
unit_begins name at_line_start (b ∷ rest) h =
    let closed : (at_line_start && is_closing_line name (b ∷ rest)) ≡ false = false_from_ne_true _ (λ e. absurd (omega (arith, rw e at h))) in
    let inner = rw closed at h in (
      closed,
      false_from_ne_true _ (λ e.
          let both = and_parts (is_sigil b) (slice_index rest 0 == 123) e in
          let second : slice_index rest 0 ≡ 123 = eqb-true (slice_index rest 0) 123 both.1 in
          let other : (slice_index rest 0 == b) ≡ false = ne_eqb (slice_index rest 0) b (λ k. absurd (grind (arith, nat_tests))) in
          let none = rw (both.0, other, second) at inner in
          absurd (omega (arith, none))),
    )

-- where none begins, there is a closing line or an ASCII byte
pub heredoc_stops : (name : List ℕ) (at_line_start : Bool) (t : List ℕ) → heredoc_unit name at_line_start t ≡ 0
    → ((at_line_start && is_closing_line name t) ≡ true) ⊎ (slice_index t 0 < 128)
heredoc_stops name at_line_start [] h = inr (omega arith)
heredoc_stops name at_line_start (b ∷ rest) h =
    cond_both (at_line_start && is_closing_line name (b ∷ rest)) 0 _ (λ n. n ≡ 0 → ((at_line_start && is_closing_line name (b ∷ rest)) ≡ true) ⊎ (b < 128))
    (λ e _. inl e)
    (λ _. cond_both (is_sigil b) _ 1 (λ n. n ≡ 0 → ((at_line_start && is_closing_line name (b ∷ rest)) ≡ true) ⊎ (b < 128))
    (λ e _. inr (grind (arith, nat_tests))) (λ _ k. absurd (omega arith))) h

-- UTF-8 may be split before a closing line
pub utf8_closing : (name s rest : List ℕ) → IsIdentifier name → IsUtf8 (s ++ rest) → is_closing_line name rest ≡ true → IsUtf8 rest
utf8_closing name s rest ident u h =
    elim (closing_prefix name rest (identifier_some name ident).0 h) [
      | inl is_white ↦ (let b : ℕ = slice_index rest 0 in utf8_rest s rest u (grind (arith, nat_tests)))
      | inr same ↦
          let at : slice_index (s ++ rest) (length s) ≡ slice_index rest 0 = ap (slice_index (s ++ rest)) (omega arith) ∙ get_or-append-add s rest 0 0 in
          let size : length (s ++ rest) ≡ length s + length rest = length-append s rest in
          let first = (IsCharBoundary-start name ident.0).1 (identifier_some name ident).0 in
          let char_boundary : IsCharBoundary (s ++ rest) (length s) = (omega arith, λ _ k. omega (arith, first (omega arith))) in
          subst IsUtf8 (drop_at s rest (length s) refl) (IsUtf8-drop (s ++ rest) (length s) u char_boundary)
    ]
