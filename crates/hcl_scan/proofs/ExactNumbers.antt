-- A number is what is found, if what follows does not go on with it.
use Rattle.std.proofs.Common.{◌≡◌, ℕ, suc, ◌+◌, ◌≤◌, true, false, List, [], ◌∷◌, ◌++◌, length, drop, slice_index, refl, sym, ap, subst, ◌∙◌, inl, inr, arith, append_assoc, append-nil, length-append, drop_at}
use Rattle.std.proofs.lemmas.Bool.{and_parts, cases_lt}
use Rattle.std.proofs.lemmas.Bool.Decides.{nat_tests}
use Rattle.std.specs.Char.{is_ascii_digit}
use Rattle.std.specs.Cmp.Derive.{both_true}
use Rattle.std.specs.List.{list_all}
use Rattle.hcl_token.specs.Joins.{is_digits}
use Rattle.hcl_scan.specs.Lexeme.{is_decimal, IsFraction, IsExponent}
use Rattle.hcl_scan.specs.Inner.NextToken.{decimal_length, fraction_length, is_sign, is_exponent_letter, exponent_length, tail_length, number_length}
use Rattle.hcl_scan.proofs.BeatsNumbers.{digits_add, all_digits, head_digit, no_digits, head_of, letter_no_digit, letter_no_point, letter_head, no_point, tail_of, tail_head, number_of}
use Rattle.hcl_scan.proofs.Ends.{EndsNumber}

pub digits_exact : (s rest : List ℕ) → is_decimal s ≡ true → is_ascii_digit (slice_index rest 0) ≡ false → decimal_length (s ++ rest) ≡ length s
digits_exact s rest decimal none = digits_add s rest (all_digits s decimal) ∙ omega (arith, no_digits rest none)

-- ---- exponents

module _ (rest : List ℕ) (no_digit : is_ascii_digit (slice_index rest 0) ≡ false) (no_letter : is_exponent_letter (slice_index rest 0) ≡ false) where
  ordinary_exact : (letter : ℕ) (digits : List ℕ) → is_exponent_letter letter ≡ true → is_decimal digits ≡ true → exponent_length (letter ∷ (digits ++ rest)) ≡ 1 + length digits
  ordinary_exact letter digits h decimal =
      let first : is_ascii_digit (slice_index (digits ++ rest) 0) ≡ true = head_digit digits rest decimal in
      rw (h, first) (omega (arith, digits_exact digits rest decimal no_digit))

  signed_exact : (letter sign : ℕ) (digits : List ℕ) → is_exponent_letter letter ≡ true → is_ascii_digit sign ≡ false → is_sign sign ≡ true → is_decimal digits ≡ true
      → exponent_length (letter ∷ sign ∷ (digits ++ rest)) ≡ 2 + length digits
  signed_exact letter sign digits h plain is decimal =
      let first : is_ascii_digit (slice_index (digits ++ rest) 0) ≡ true = head_digit digits rest decimal in
      rw (h, plain, is, first) (omega (arith, digits_exact digits rest decimal no_digit))

  exponent_exact : (s : List ℕ) → IsExponent s → exponent_length (s ++ rest) ≡ length s
  exponent_exact s (inl e) = subst (λ (x : List ℕ). exponent_length (x ++ rest) ≡ length x) (sym e) (rw no_letter refl)
  exponent_exact s (inr (letter, sign, digits, e, h, inl none, decimal)) =
      let spelt : s ≡ letter ∷ digits = e ∙ ap (λ (x : List ℕ). letter ∷ (x ++ digits)) none in
      subst (λ (x : List ℕ). exponent_length (x ++ rest) ≡ length x) (sym spelt) (omega (arith, ordinary_exact letter digits h decimal))
  exponent_exact s (inr (letter, sign, digits, e, h, inr (inl plus), decimal)) =
      let spelt : s ≡ letter ∷ 43 ∷ digits = e ∙ ap (λ (x : List ℕ). letter ∷ (x ++ digits)) plus in
      subst (λ (x : List ℕ). exponent_length (x ++ rest) ≡ length x) (sym spelt) (omega (arith, signed_exact letter 43 digits h refl refl decimal))
  exponent_exact s (inr (letter, sign, digits, e, h, inr (inr minus), decimal)) =
      let spelt : s ≡ letter ∷ 45 ∷ digits = e ∙ ap (λ (x : List ℕ). letter ∷ (x ++ digits)) minus in
      subst (λ (x : List ℕ). exponent_length (x ++ rest) ≡ length x) (sym spelt) (omega (arith, signed_exact letter 45 digits h refl refl decimal))

  -- ---- fractions

  -- with no fraction and no exponent nothing is found, if no fraction follows
  exponent_tail : (x : List ℕ) → IsExponent x → (x ≡ [] → fraction_length rest ≡ 0) → tail_length (x ++ rest) ≡ length x
  exponent_tail x is none =
      elim (cases_lt 0 (length x)) [
        | inr empty ↦
            let e : x ≡ [] = nothing x empty in
            subst (λ (y : List ℕ). tail_length (y ++ rest) ≡ length y) (sym e) (tail_of rest 0 (none e) ∙ omega (arith, rest_none))
        | inl some ↦
            let t : List ℕ = x ++ rest in
            let letter : is_exponent_letter (slice_index t 0) ≡ true = ap is_exponent_letter (head_of x rest some) ∙ letter_head x is some in
            let value : tail_length t ≡ 0 + exponent_length (drop 0 t) = tail_of t 0 (no_point t (letter_no_point (slice_index t 0) letter)) in
            value ∙ omega (arith, exponent_exact x is)
      ]
    where
      nothing : (y : List ℕ) → length y ≤ 0 → y ≡ []
      nothing [] h = refl
      nothing (b ∷ y) h = absurd (omega arith)

      rest_none : exponent_length (drop 0 rest) ≡ 0
      rest_none = rw no_letter refl

  fraction_tail : (digits x : List ℕ) → is_decimal digits ≡ true → IsExponent x → tail_length (46 ∷ (digits ++ (x ++ rest))) ≡ suc (length (digits ++ x))
  fraction_tail digits x decimal is =
      let body : List ℕ = digits ++ (x ++ rest) in
      let t : List ℕ = 46 ∷ body in
      let n : ℕ = suc (length digits) in
      let digit : is_ascii_digit (slice_index body 0) ≡ true = head_digit digits (x ++ rest) decimal in
      let first : fraction_length t ≡ 1 + decimal_length body = rw digit refl in
      let stop : is_ascii_digit (slice_index (x ++ rest) 0) ≡ false = after_digits x is in
      let count : decimal_length body ≡ length digits = digits_exact digits (x ++ rest) decimal stop in
      let size : length (digits ++ x) ≡ length digits + length x = length-append digits x in
      let width : fraction_length t ≡ n = first ∙ omega (arith, count) in
      let following : drop n t ≡ x ++ rest = drop_at (46 ∷ digits) (x ++ rest) n refl in
      let value : tail_length t ≡ n + exponent_length (x ++ rest) = tail_of t n width ∙ ap (λ (y : List ℕ). n + exponent_length y) following in
      value ∙ omega (arith, size, exponent_exact x is)
    where
      after_digits : (y : List ℕ) → IsExponent y → is_ascii_digit (slice_index (y ++ rest) 0) ≡ false
      after_digits [] is = no_digit
      after_digits (b ∷ y) is = letter_no_digit b (letter_head (b ∷ y) is (omega arith))

  tail_exact : (f x : List ℕ) → IsFraction f → IsExponent x → (f ++ x ≡ [] → fraction_length rest ≡ 0) → tail_length ((f ++ x) ++ rest) ≡ length (f ++ x)
  tail_exact f x (inl e) is none =
      let same : f ++ x ≡ x = ap (λ (y : List ℕ). y ++ x) e in
      ap (λ (y : List ℕ). tail_length (y ++ rest)) same ∙ exponent_tail x is (λ k. none (same ∙ k)) ∙ ap length (sym same)
  tail_exact f x (inr (digits, e, decimal)) is none =
      subst (λ (y : List ℕ). tail_length ((y ++ x) ++ rest) ≡ length (y ++ x)) (sym e)
      (subst (λ (y : List ℕ). tail_length (46 ∷ y) ≡ suc (length (digits ++ x))) (sym (append_assoc digits x rest)) (fraction_tail digits x decimal is))

-- ---- numbers

digits_alone : (s : List ℕ) → list_all is_ascii_digit s ≡ true → is_digits s ≡ true
digits_alone [] h = refl
digits_alone (d ∷ ds) h =
    let both = and_parts (is_ascii_digit d) (list_all is_ascii_digit ds) h in
    both_true (grind (arith, nat_tests)) (digits_alone ds both.1)

pub number_exact : (whole f x rest : List ℕ) → is_decimal whole ≡ true → IsFraction f → IsExponent x → EndsNumber (whole ++ (f ++ x)) rest
    → number_length ((whole ++ (f ++ x)) ++ rest) ≡ length (whole ++ (f ++ x))
number_exact whole f x rest decimal fraction exponent ends =
    let tail : List ℕ = f ++ x in
    let t : List ℕ = (whole ++ tail) ++ rest in
    let n : ℕ = length whole in
    let split : t ≡ whole ++ (tail ++ rest) = append_assoc whole tail rest in
    let stop : is_ascii_digit (slice_index (tail ++ rest) 0) ≡ false = byte_after_whole tail refl in
    let width : decimal_length t ≡ n = ap decimal_length split ∙ digits_exact whole (tail ++ rest) decimal stop in
    let following : drop n t ≡ tail ++ rest = ap (drop n) split ∙ drop_at whole (tail ++ rest) n refl in
    let value : number_length t ≡ n + tail_length (tail ++ rest) = number_of t n width ∙ ap (λ (y : List ℕ). n + tail_length y) following in
    let none : tail ≡ [] → fraction_length rest ≡ 0 = λ e. ends.2 (ap (λ (y : List ℕ). is_digits (whole ++ y)) e ∙ ap is_digits (append-nil whole) ∙ digits_alone whole (all_digits whole decimal)) in
    value ∙ omega (arith, tail_exact rest ends.0 ends.1 f x fraction exponent none, length-append whole tail)
  where
    byte_after_whole : (y : List ℕ) → f ++ x ≡ y → is_ascii_digit (slice_index (y ++ rest) 0) ≡ false
    byte_after_whole [] e = ends.0
    byte_after_whole (b ∷ y) e = ap (λ (z : List ℕ). is_ascii_digit (slice_index z 0)) (sym e) ∙ tail_head f x fraction exponent (omega (arith, ap length e))
