-- The token outside of literal text, by its first bytes.
use Rattle.std.proofs.Common.{◌≡◌, ℕ, ◌+◌, ◌≤◌, ◌==◌, ◌&&◌, not, Bool, true, false, List, drop, slice_index, refl, ap, ◌∙◌, arith, get_or-drop, drop-drop, Some}
use Rattle.std.proofs.lemmas.Bool.{and_parts, not-true}
use Rattle.std.proofs.lemmas.Bool.Decides.{nat_tests}
use Rattle.std.specs.Char.{is_ascii_digit}
use Rattle.hcl_token.specs.declared.kind.Kind.TheVariants.{Number, DotIndex}
use Rattle.hcl_scan.specs.Inner.HeredocToken.{is_at_heredoc_start, here_open}
use Rattle.hcl_scan.specs.Inner.NextToken.{is_word_start, identifier, is_exponent_letter, decimal_length, tail_length, number_length, heredoc_or_less, dot_token, punctuation, expression_token}
use Rattle.hcl_scan.proofs.BeatsNumbers.{no_digits, no_point, tail_of, number_of}

first_at : (text : List ℕ) (at : ℕ) → slice_index (drop at text) 0 ≡ slice_index text at
first_at text at = get_or-drop at text 0 0 ∙ ap (slice_index text) (omega arith)

second_at : (text : List ℕ) (at : ℕ) → slice_index (drop at text) 1 ≡ slice_index text (at + 1)
second_at text at = get_or-drop at text 1 0

-- the legacy index
pub index_token : (text : List ℕ) (at n : ℕ) → is_ascii_digit (slice_index text (at + 1)) ≡ true → n ≡ 1 + decimal_length (drop (at + 1) text) → Some (DotIndex, n) ≡ dot_token (drop at text)
index_token text at n digit size =
    let rest : drop 1 (drop at text) ≡ drop (at + 1) text = drop-drop 1 at text in
    rw (second_at text at, digit, rest) (ap (λ m. Some (DotIndex, m)) size)

pub digit_byte : (b : ℕ) → 48 ≤ b → b ≤ 57 → (is_ascii_digit b ≡ true) × (is_word_start b ≡ false)
digit_byte b low high = (grind (arith, nat_tests), grind (arith, nat_tests))

pub token_of_word : (text : List ℕ) (at : ℕ) (closes : Bool) → is_word_start (slice_index text at) ≡ true → expression_token closes (drop at text) ≡ identifier (drop at text)
token_of_word text at closes word = rw (first_at text at, word) refl

module _ (t : List ℕ) (closes : Bool) (no_word : is_word_start (slice_index t 0) ≡ false) (no_digit : is_ascii_digit (slice_index t 0) ≡ false) where
  opens_here : is_at_heredoc_start t ≡ true → expression_token closes t ≡ heredoc_or_less (here_open t)
  opens_here begins = rw (no_word, no_digit, begins) refl

  opens_none : is_at_heredoc_start t ≡ false → expression_token closes t ≡ punctuation closes t
  opens_none other = rw (no_word, no_digit, other) refl

module _ (text : List ℕ) (at : ℕ) (closes : Bool) (no_word : is_word_start (slice_index text at) ≡ false) where
  pub token_of_number : is_ascii_digit (slice_index text at) ≡ true → expression_token closes (drop at text) ≡ Some (Number, number_length (drop at text))
  token_of_number digit = rw (first_at text at, no_word, digit) refl

  module _ (no_digit : is_ascii_digit (slice_index text at) ≡ false) where
    pub token_of_opening : is_at_heredoc_start (drop at text) ≡ true → expression_token closes (drop at text) ≡ heredoc_or_less (here_open (drop at text))
    token_of_opening = opens_here (drop at text) closes (ap is_word_start (first_at text at) ∙ no_word) (ap is_ascii_digit (first_at text at) ∙ no_digit)

    pub token_of_punctuation : is_at_heredoc_start (drop at text) ≡ false → expression_token closes (drop at text) ≡ punctuation closes (drop at text)
    token_of_punctuation = opens_none (drop at text) closes (ap is_word_start (first_at text at) ∙ no_word) (ap is_ascii_digit (first_at text at) ∙ no_digit)

-- digits after which no number goes on
no_tail : (u : List ℕ) → (slice_index u 0 == 46) ≡ false → is_exponent_letter (slice_index u 0) ≡ false → tail_length u ≡ 0
no_tail u point letter = tail_of u 0 (no_point u point) ∙ rw letter refl

number_parts : (b : ℕ) → (not (is_ascii_digit b) && (not (b == 46) && not (is_exponent_letter b))) ≡ true → (is_ascii_digit b ≡ false) × ((b == 46) ≡ false) × (is_exponent_letter b ≡ false)
number_parts b ends =
    let all = and_parts (not (is_ascii_digit b)) (not (b == 46) && not (is_exponent_letter b)) ends in
    let both = and_parts (not (b == 46)) (not (is_exponent_letter b)) all.1 in
    (not-true (is_ascii_digit b) all.0, not-true (b == 46) both.0, not-true (is_exponent_letter b) both.1)

pub whole_number : (text : List ℕ) (at n : ℕ) → decimal_length (drop at text) ≡ n + decimal_length (drop (at + n) text)
    → (not (is_ascii_digit (slice_index text (at + n))) && (not (slice_index text (at + n) == 46) && not (is_exponent_letter (slice_index text (at + n))))) ≡ true
    → n ≡ number_length (drop at text)
whole_number text at n run ends =
    let t : List ℕ = drop at text in
    let u : List ℕ = drop (at + n) text in
    let parts = number_parts (slice_index text (at + n)) ends in
    let first = first_at text (at + n) in
    let none : decimal_length u ≡ 0 = no_digits u (ap is_ascii_digit first ∙ parts.0) in
    let size : decimal_length t ≡ n = omega (arith, run, none) in
    let rest : drop n t ≡ u = drop-drop n at text ∙ ap (λ k. drop k text) (omega arith) in
    let tail : tail_length (drop n t) ≡ 0 = ap tail_length rest ∙ no_tail u (ap (λ b. b == 46) first ∙ parts.1) (ap is_exponent_letter first ∙ parts.2) in
    omega (arith, number_of t n size, tail)
