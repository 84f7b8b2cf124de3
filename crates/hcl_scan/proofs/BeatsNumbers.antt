-- A number at the start of a text is what the scanner finds, or shorter.
use Rattle.std.proofs.Common.{◌≡◌, ℕ, suc, ◌+◌, ◌<◌, ◌≤◌, true, false, ◌==◌, List, [], ◌∷◌, ◌++◌, length, drop, slice_index, refl, sym, ap, subst, ◌∙◌, inl, inr, arith, append_assoc, length-append, drop_at}
use Rattle.std.proofs.lemmas.Bool.{and_parts, cases_lt}
use Rattle.std.proofs.lemmas.Bool.Decides.{nat_tests}
use Rattle.std.specs.Char.{is_ascii_digit}
use Rattle.std.specs.List.{list_all}
use Rattle.hcl_scan.specs.Lexeme.{is_decimal, IsFraction, IsExponent}
use Rattle.hcl_scan.specs.Inner.NextToken.{decimal_length, fraction_length, is_sign, is_exponent_letter, exponent_length, tail_length, number_length}

-- ---- digits

pub digits_add : (s rest : List ℕ) → list_all is_ascii_digit s ≡ true → decimal_length (s ++ rest) ≡ length s + decimal_length rest
digits_add [] rest all = omega arith
digits_add (d ∷ ds) rest all =
    let both = and_parts (is_ascii_digit d) (list_all is_ascii_digit ds) all in
    let rec : decimal_length (ds ++ rest) ≡ length ds + decimal_length rest = digits_add ds rest both.1 in
    rw both.0 (omega arith)

pub all_digits : (s : List ℕ) → is_decimal s ≡ true → list_all is_ascii_digit s ≡ true
all_digits [] h = absurd (cc)
all_digits (d ∷ ds) h = h

-- the first of some digits
pub head_digit : (s rest : List ℕ) → is_decimal s ≡ true → is_ascii_digit (slice_index (s ++ rest) 0) ≡ true
head_digit [] rest h = absurd (cc)
head_digit (d ∷ ds) rest h = (and_parts (is_ascii_digit d) (list_all is_ascii_digit ds) h).0

pub no_digits : (t : List ℕ) → is_ascii_digit (slice_index t 0) ≡ false → decimal_length t ≡ 0
no_digits [] h = refl
no_digits (b ∷ t) h = rw h refl

pub head_of : (s rest : List ℕ) → 0 < length s → slice_index (s ++ rest) 0 ≡ slice_index s 0
head_of [] rest some = absurd (omega arith)
head_of (b ∷ s) rest some = refl

-- ---- exponents

pub letter_no_digit : (b : ℕ) → is_exponent_letter b ≡ true → is_ascii_digit b ≡ false
letter_no_digit b h = grind (arith, nat_tests)

pub letter_no_point : (b : ℕ) → is_exponent_letter b ≡ true → (b == 46) ≡ false
letter_no_point b h = grind (arith, nat_tests)

pub letter_head : (s : List ℕ) → IsExponent s → 0 < length s → is_exponent_letter (slice_index s 0) ≡ true
letter_head s (inl e) some = absurd (omega (arith, ap length e))
letter_head s (inr (letter, sign, digits, e, h, signed, decimal)) some = ap (λ (x : List ℕ). is_exponent_letter (slice_index x 0)) e ∙ h

ordinary_le : (letter : ℕ) (digits rest : List ℕ) → is_exponent_letter letter ≡ true → is_decimal digits ≡ true → 1 + length digits ≤ exponent_length (letter ∷ (digits ++ rest))
ordinary_le letter digits rest h decimal =
    let first : is_ascii_digit (slice_index (digits ++ rest) 0) ≡ true = head_digit digits rest decimal in
    rw (h, first) (omega (arith, digits_add digits rest (all_digits digits decimal)))

signed_le : (letter sign : ℕ) (digits rest : List ℕ) → is_exponent_letter letter ≡ true → is_ascii_digit sign ≡ false → is_sign sign ≡ true → is_decimal digits ≡ true
    → 2 + length digits ≤ exponent_length (letter ∷ sign ∷ (digits ++ rest))
signed_le letter sign digits rest h no_digit is decimal =
    let first : is_ascii_digit (slice_index (digits ++ rest) 0) ≡ true = head_digit digits rest decimal in
    rw (h, no_digit, is, first) (omega (arith, digits_add digits rest (all_digits digits decimal)))

exponent_le : (s rest : List ℕ) → IsExponent s → length s ≤ exponent_length (s ++ rest)
exponent_le s rest (inl e) = omega (arith, ap length e)
exponent_le s rest (inr (letter, sign, digits, e, h, inl none, decimal)) =
    let spelt : s ≡ letter ∷ digits = e ∙ ap (λ (x : List ℕ). letter ∷ (x ++ digits)) none in
    subst (λ (x : List ℕ). length x ≤ exponent_length (x ++ rest)) (sym spelt) (omega (arith, ordinary_le letter digits rest h decimal))
exponent_le s rest (inr (letter, sign, digits, e, h, inr (inl plus), decimal)) =
    let spelt : s ≡ letter ∷ 43 ∷ digits = e ∙ ap (λ (x : List ℕ). letter ∷ (x ++ digits)) plus in
    subst (λ (x : List ℕ). length x ≤ exponent_length (x ++ rest)) (sym spelt) (omega (arith, signed_le letter 43 digits rest h refl refl decimal))
exponent_le s rest (inr (letter, sign, digits, e, h, inr (inr minus), decimal)) =
    let spelt : s ≡ letter ∷ 45 ∷ digits = e ∙ ap (λ (x : List ℕ). letter ∷ (x ++ digits)) minus in
    subst (λ (x : List ℕ). length x ≤ exponent_length (x ++ rest)) (sym spelt) (omega (arith, signed_le letter 45 digits rest h refl refl decimal))

-- ---- a fraction and an exponent

pub no_point : (t : List ℕ) → (slice_index t 0 == 46) ≡ false → fraction_length t ≡ 0
no_point t h = rw h refl

pub tail_of : (t : List ℕ) (n : ℕ) → fraction_length t ≡ n → tail_length t ≡ n + exponent_length (drop n t)
tail_of t n e = ap (λ k. k + exponent_length (drop k t)) e

exponent_tail : (x rest : List ℕ) → IsExponent x → length x ≤ tail_length (x ++ rest)
exponent_tail x rest is =
    elim (cases_lt 0 (length x)) [
      | inr none ↦ omega arith
      | inl some ↦
          let t : List ℕ = x ++ rest in
          let letter : is_exponent_letter (slice_index t 0) ≡ true = ap is_exponent_letter (head_of x rest some) ∙ letter_head x is some in
          let value : tail_length t ≡ 0 + exponent_length (drop 0 t) = tail_of t 0 (no_point t (letter_no_point (slice_index t 0) letter)) in
          let le : length x ≤ exponent_length (drop 0 t) = exponent_le x rest is in
          omega (arith, value, le)
    ]

fraction_tail : (digits x rest : List ℕ) → is_decimal digits ≡ true → IsExponent x → suc (length (digits ++ x)) ≤ tail_length (46 ∷ (digits ++ (x ++ rest)))
fraction_tail digits x rest decimal is =
    let body : List ℕ = digits ++ (x ++ rest) in
    let t : List ℕ = 46 ∷ body in
    let digit : is_ascii_digit (slice_index body 0) ≡ true = head_digit digits (x ++ rest) decimal in
    let first : fraction_length t ≡ 1 + decimal_length body = rw digit refl in
    let count : decimal_length body ≡ length digits + decimal_length (x ++ rest) = digits_add digits (x ++ rest) (all_digits digits decimal) in
    let size : length (digits ++ x) ≡ length digits + length x = length-append digits x in
    elim (cases_lt 0 (length x)) [
      | inr none ↦
          let value : tail_length t ≡ fraction_length t + exponent_length (drop (fraction_length t) t) = tail_of t (fraction_length t) refl in
          omega (arith, value, first, count, size)
      | inl some ↦
          let n : ℕ = suc (length digits) in
          let letter : is_exponent_letter (slice_index (x ++ rest) 0) ≡ true = ap is_exponent_letter (head_of x rest some) ∙ letter_head x is some in
          let stop : decimal_length (x ++ rest) ≡ 0 = no_digits (x ++ rest) (letter_no_digit (slice_index (x ++ rest) 0) letter) in
          let width : fraction_length t ≡ n = first ∙ omega (arith, count, stop) in
          let following : drop n t ≡ x ++ rest = drop_at (46 ∷ digits) (x ++ rest) n refl in
          let value : tail_length t ≡ n + exponent_length (x ++ rest) = tail_of t n width ∙ ap (λ (y : List ℕ). n + exponent_length y) following in
          omega (arith, value, size, exponent_le x rest is)
    ]

tail_le : (f x rest : List ℕ) → IsFraction f → IsExponent x → length (f ++ x) ≤ tail_length ((f ++ x) ++ rest)
tail_le f x rest (inl e) is = subst (λ (y : List ℕ). length (y ++ x) ≤ tail_length ((y ++ x) ++ rest)) (sym e) (exponent_tail x rest is)
tail_le f x rest (inr (digits, e, decimal)) is =
    subst (λ (y : List ℕ). length (y ++ x) ≤ tail_length ((y ++ x) ++ rest)) (sym e)
    (subst (λ (y : List ℕ). suc (length (digits ++ x)) ≤ tail_length (46 ∷ y)) (sym (append_assoc digits x rest)) (fraction_tail digits x rest decimal is))

-- what follows the whole part begins with no digit
pub tail_head : (f x : List ℕ) → IsFraction f → IsExponent x → 0 < length (f ++ x) → is_ascii_digit (slice_index (f ++ x) 0) ≡ false
tail_head f x (inl e) is some =
    let none : f ++ x ≡ x = ap (λ (y : List ℕ). y ++ x) e in
    let more : 0 < length x = omega (arith, ap length none) in
    ap (λ (y : List ℕ). is_ascii_digit (slice_index y 0)) none ∙ letter_no_digit (slice_index x 0) (letter_head x is more)
tail_head f x (inr (digits, e, decimal)) is some = ap (λ (y : List ℕ). is_ascii_digit (slice_index (y ++ x) 0)) e

-- ---- numbers

pub number_of : (t : List ℕ) (n : ℕ) → decimal_length t ≡ n → number_length t ≡ n + tail_length (drop n t)
number_of t n e = ap (λ k. k + tail_length (drop k t)) e

pub number_le : (whole f x rest : List ℕ) → is_decimal whole ≡ true → IsFraction f → IsExponent x
    → length (whole ++ (f ++ x)) ≤ number_length ((whole ++ (f ++ x)) ++ rest)
number_le whole f x rest decimal fraction exponent =
    let tail : List ℕ = f ++ x in
    let t : List ℕ = (whole ++ tail) ++ rest in
    let split : t ≡ whole ++ (tail ++ rest) = append_assoc whole tail rest in
    let count : decimal_length t ≡ length whole + decimal_length (tail ++ rest) = ap decimal_length split ∙ digits_add whole (tail ++ rest) (all_digits whole decimal) in
    let size : length (whole ++ tail) ≡ length whole + length tail = length-append whole tail in
    elim (cases_lt 0 (length tail)) [
      | inr none ↦
          let value : number_length t ≡ decimal_length t + tail_length (drop (decimal_length t) t) = number_of t (decimal_length t) refl in
          omega (arith, value, count, size)
      | inl some ↦
          let n : ℕ = length whole in
          let stop : decimal_length (tail ++ rest) ≡ 0 = no_digits (tail ++ rest) (ap is_ascii_digit (head_of tail rest some) ∙ tail_head f x fraction exponent some) in
          let width : decimal_length t ≡ n = omega (arith, count, stop) in
          let following : drop n t ≡ tail ++ rest = ap (drop n) split ∙ drop_at whole (tail ++ rest) n refl in
          let value : number_length t ≡ n + tail_length (tail ++ rest) = number_of t n width ∙ ap (λ (y : List ℕ). n + tail_length y) following in
          omega (arith, value, size, tail_le f x rest fraction exponent)
    ]
