-- A character at a place, and what follows it.
use Rattle.std.proofs.Common.{◌≡◌, ◌==◌, ◌||◌, true, false, inl, inr, Some, None, Bool, ℕ, zero, suc, ◌+◌, ◌-◌, ◌<◌, ◌≤◌, List, [], ◌∷◌, ◌++◌, slice_index, if◌then◌else◌, length, drop, IsUtf8, encode_utf8, sym, ap, subst, ◌∙◌, arith, length-append, length-drop}
use Rattle.std.proofs.lemmas.Str.{chars_past_char, drop_past_char, IsUtf8-past_char, length-encode, encode_ascii, chars-nil, len_utf8_ascii}
use Rattle.std.proofs.lemmas.List.{drop_more, drop_all}
use Rattle.std.specs.Char.{len_utf8}
use Rattle.std.specs.Str.{chars}
use Rattle.std.proofs.lemmas.Bool.{cases_lt}
use Rattle.std.proofs.lemmas.Bool.Decides.{nat_tests}
use Rattle.unicode_ident.proofs.IdentLemmas.{is_xid_start-ascii, is_xid_continue-ascii}
use Rattle.hcl_token.specs.declared.kind.Kind.TheVariants.{Identifier}
use Rattle.hcl_scan.specs.Characters.{is_id_start, is_id_continue}
use Rattle.hcl_scan.specs.Inner.LexemeStarts.{id_continue_length, identifier_of, identifier, is_letter, is_ascii_id_continue, is_word_start}

module _ (text rest : List ℕ) (at c : ℕ) (bytes : drop at text ≡ encode_utf8 c ++ rest) where
  pub chars_at : IsUtf8 (drop at text) → chars (drop at text) ≡ c ∷ chars (drop (at + len_utf8 c) text)
  chars_at u = rw (drop_past_char text rest at c bytes) (chars_past_char (drop at text) rest c u bytes)

  pub rest_at : IsUtf8 (drop at text) → IsUtf8 (drop (at + len_utf8 c) text)
  rest_at u = rw (drop_past_char text rest at c bytes) (IsUtf8-past_char (drop at text) rest c u bytes)

  pub within_at : at < length text → at + len_utf8 c ≤ length text
  within_at h =
      let total : length text - at ≡ len_utf8 c + length rest =
      sym (length-drop at text) ∙ ap length bytes ∙ length-append (encode_utf8 c) rest ∙ ap (λ n. n + length rest) (length-encode c) in
      omega arith

-- an ASCII character at a place
pub chars_ascii : (text : List ℕ) (at : ℕ) → IsUtf8 (drop at text) → at < length text → slice_index text at < 128
    → (chars (drop at text) ≡ slice_index text at ∷ chars (drop (at + 1) text)) × IsUtf8 (drop (at + 1) text)
chars_ascii text at u h ascii =
    let b = slice_index text at in
    let bytes : drop at text ≡ encode_utf8 b ++ drop (at + 1) text =
    drop_more text at 0 h ∙ ap (λ (bs : List ℕ). bs ++ drop (at + 1) text) (sym (encode_ascii b ascii)) in
    (chars_past_char (drop at text) _ b u bytes, IsUtf8-past_char (drop at text) _ b u bytes)

-- at the end of the text and after it there is no character
pub chars_end : (text : List ℕ) (at : ℕ) → length text ≤ at → chars (drop at text) ≡ []
chars_end text at h = ap chars (drop_all at text h) ∙ chars-nil

-- how a run of characters goes on at an ASCII character
pub id_continue_length_ascii : (text : List ℕ) (at : ℕ) → IsUtf8 (drop at text) → at < length text → slice_index text at < 128
    → (id_continue_length (chars (drop at text)) ≡ (if is_id_continue (slice_index text at) then 1 + id_continue_length (chars (drop (at + 1) text)) else 0)) × IsUtf8 (drop (at + 1) text)
id_continue_length_ascii text at u h ascii =
    let e = chars_ascii text at u h ascii in
    let rest = id_continue_length (chars (drop (at + 1) text)) in
    (ap id_continue_length e.0 ∙ ap (λ n. if is_id_continue (slice_index text at) then n + rest else 0) (len_utf8_ascii (slice_index text at) ascii), e.1)

-- at ASCII characters
continues_same : (b : ℕ) → b < 128 → is_id_continue b ≡ is_ascii_id_continue b
continues_same b ascii = ap (λ x. x || (b == 45)) (is_xid_continue-ascii b ascii)

id_continue_ascii : (b : ℕ) → is_ascii_id_continue b ≡ true → b < 128
id_continue_ascii b on = grind (arith, nat_tests)

-- the run goes on
pub id_continue_at : (text : List ℕ) (at : ℕ) → IsUtf8 (drop at text) → at < length text → is_ascii_id_continue (slice_index text at) ≡ true
    → (id_continue_length (chars (drop at text)) ≡ 1 + id_continue_length (chars (drop (at + 1) text))) × IsUtf8 (drop (at + 1) text)
id_continue_at text at u h on =
    let ascii : slice_index text at < 128 = id_continue_ascii (slice_index text at) on in
    rw (continues_same (slice_index text at) ascii, on) at (id_continue_length_ascii text at u h ascii)

-- the run goes on by n bytes
abbrev pub RunContinues : List ℕ → ℕ → ℕ → Type 0
RunContinues text at n =
    (n + id_continue_length (chars (drop (at + n) text)) ≡ id_continue_length (chars (drop at text))) × IsUtf8 (drop (at + n) text)

id_continue_more : (text : List ℕ) (at n m : ℕ) → m ≡ n + 1 → at + n < length text → is_ascii_id_continue (slice_index text (at + n)) ≡ true → RunContinues text at n → RunContinues text at m
id_continue_more text at n m next h on so_far =
    let step = id_continue_at text (at + n) so_far.1 h on in
    let place : at + n + 1 ≡ at + m = omega arith in
    let rest = ap (λ k. id_continue_length (chars (drop k text))) place in
    (omega (arith, so_far.0, step.0, rest), subst (λ k. IsUtf8 (drop k text)) place step.1)

pub run_continues : (text : List ℕ) (at n : ℕ) → IsUtf8 (drop at text) → at + n ≤ length text → ((k : ℕ) → at ≤ k → k < at + n → is_ascii_id_continue (slice_index text k) ≡ true) → RunContinues text at n
run_continues text at zero u h on =
    let place : at ≡ at + 0 = omega arith in
    let same = ap (λ k. id_continue_length (chars (drop k text))) (sym place) in
    (omega (arith, same), subst (λ k. IsUtf8 (drop k text)) place u)
run_continues text at (suc n) u h on =
    id_continue_more text at n (suc n) (omega arith) (omega arith) (on (at + n) (omega arith) (omega arith)) (run_continues text at n u (omega arith) (λ k from to. on k from (omega arith)))

-- the run ends
pub continue_none : (text : List ℕ) (at : ℕ) → IsUtf8 (drop at text) → slice_index text at < 128 → is_ascii_id_continue (slice_index text at) ≡ false
    → id_continue_length (chars (drop at text)) ≡ 0
continue_none text at u ascii ends =
    elim (cases_lt at (length text)) [
      | inr past ↦ ap id_continue_length (chars_end text at past)
      | inl h ↦ rw (continues_same (slice_index text at) ascii, ends) at (id_continue_length_ascii text at u h ascii).0
    ]

pub letter_ascii : (b : ℕ) → is_letter b ≡ true → (b < 128) × (is_word_start b ≡ true)
letter_ascii b letter = (grind (arith, nat_tests), grind (arith, nat_tests))

pub word_letter : (b : ℕ) → b < 128 → is_word_start b ≡ true → is_letter b ≡ true
word_letter b ascii word = grind (arith, nat_tests)

-- an ASCII letter or `_` starts an identifier
word_starts : (b : ℕ) → b < 128 → is_word_start b ≡ true → is_id_start b ≡ true
word_starts b ascii word = rw (is_xid_start-ascii b ascii) (grind (arith, nat_tests))

pub identifier_ascii : (text : List ℕ) (at : ℕ) → IsUtf8 (drop at text) → at < length text → slice_index text at < 128 → is_word_start (slice_index text at) ≡ true
    → identifier (drop at text) ≡ Some (Identifier, 1 + id_continue_length (chars (drop (at + 1) text)))
identifier_ascii text at u h ascii word =
    let more : List ℕ = chars (drop (at + 1) text) in
    let starts_here : is_id_start (slice_index text at) ≡ true = word_starts (slice_index text at) ascii word in
    ap identifier_of (chars_ascii text at u h ascii).0
    ∙ ap (λ (x : Bool). if x then Some (Identifier, len_utf8 (slice_index text at) + id_continue_length more) else None) starts_here
    ∙ ap (λ n. Some (Identifier, n + id_continue_length more)) (len_utf8_ascii (slice_index text at) ascii)
