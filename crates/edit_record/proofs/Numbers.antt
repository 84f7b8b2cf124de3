-- Numbers in decimal: what is read is written so, and what is written so is read.
use Rattle.std.proofs.Common.{◌≡◌, ℕ, ◌+◌, ◌/◌, ◌%◌, ◌^◌, ◌≤◌, ◌<◌, List, [], ◌∷◌, ◌++◌, length, Bool, true, false, cond, Ok, refl, sym, ap, subst, ◌∙◌, append_assoc, arith, eq-eqb, inl, inr, ◌&&◌}
use Rattle.std.specs.Prelude.{decimal, nat_lt, nat_le, ◌==◌}
use Rattle.std.proofs.lemmas.Bool.{leb-true, eqb-true, ltb-false, le-leb, le-ltb}
use Rattle.std.proofs.lemmas.Fmt.{decimal_step, decimal_digit, decimal_by_steps}
use Rattle.edit_record.specs.declared.version_1.TheConstants.{MAX_STEPS}
use Rattle.edit_record.specs.Text.{number_text, max_number}
use Rattle.edit_record.specs.declared.fault.FaultKind.TheVariants.{Head, Number}
use Rattle.edit_record.specs.Parsing.{cut_short, error, is_digit, with_digit, number_on, number_at}
use Rattle.edit_record.proofs.Choices.{chosen, err_else, ok_if, both_true, ok_is}

-- the limits of numbers: texts that there are have them, so another limit is another version
pub limits_are : (max_number ≡ 33554432) × (MAX_STEPS ≡ 64)
limits_are = (omega arith, omega arith)

-- what is read of a number, after the digits of value
pub record Takes (least limit stop value : ℕ) (t : List ℕ) (x : ℕ × List ℕ) : Type 0 where
  pub text : decimal value ++ t ≡ number_text stop x.0 ++ x.1
  pub least_is : least ≤ x.0
  pub limit_is : x.0 ≤ limit

pub digit_bounds : (c : ℕ) → is_digit c ≡ true → (48 ≤ c) × (c ≤ 57)
digit_bounds c e = let b = both_true (nat_le 48 c) (nat_le c 57) e in (leb-true 48 c b.0, leb-true c 57 b.1)

more_digits : (value c : ℕ) (t : List ℕ) → with_digit value c < 2 ^ 64 → is_digit c ≡ true → 0 < value → decimal (with_digit value c) ++ t ≡ decimal value ++ c ∷ t
more_digits value c t small digit some =
    let d = digit_bounds c digit in
    let leading : with_digit value c / 10 ≡ value = omega (arith, d.0, d.1) in
    let end : 48 + with_digit value c % 10 ≡ c = omega (arith, d.0, d.1) in
    ap (λ x. x ++ t) (decimal_step (with_digit value c) (omega (arith, d.0)) small ∙ (λ i. decimal (leading i) ++ (end i ∷ [])))
    ∙ append_assoc (decimal value) (c ∷ []) t

first_digit : (c : ℕ) (t : List ℕ) → is_digit c ≡ true → decimal (with_digit 0 c) ++ t ≡ c ∷ t
first_digit c t digit =
    let d = digit_bounds c digit in
    let is : 48 + with_digit 0 c ≡ c = omega (arith, d.0) in
    ap (λ x. x ++ t) (decimal_digit (with_digit 0 c) (omega (arith, d.0, d.1)) ∙ ap (λ x. x ∷ []) is)

at_stop : (left least limit stop value c : ℕ) (t : List ℕ) (x : ℕ × List ℕ) → value ≤ limit → cond (nat_le least value) (cond (c == stop) (Ok (value, t)) (error Head (length (c ∷ t)))) (error Number left) ≡ Ok x → Takes least limit stop value (c ∷ t) x
at_stop left least limit stop value c t x fits e =
    let b = ok_if (nat_le least value) _ _ x e in
    let s = ok_if (c == stop) _ (Ok (value, t)) x b.1 in
    let x_is : (value, t) ≡ x = ok_is (value, t) x s.1 in
    let l = leb-true least value b.0 in
    let stop_is : c ≡ stop = eqb-true c stop s.0 in
    subst (λ (y : ℕ × List ℕ). Takes least limit stop value (c ∷ t) y) x_is
    (record { text = ap (λ s. decimal value ++ s ∷ t) stop_is ∙ sym (append_assoc (decimal value) (stop ∷ []) t); least_is = l; limit_is = fits })

either_error : (b : Bool) (left : ℕ) (x : ℕ × List ℕ) → cond b (error Number left) cut_short ≡ Ok x → ⊥
either_error true left x e = absurd cc
either_error false left x e = absurd cc

digits_take : (left least limit stop value : ℕ) (t : List ℕ) (x : ℕ × List ℕ) → limit < 2 ^ 64 → value ≤ limit → number_on left least limit stop true value t ≡ Ok x → Takes least limit stop value t x
digits_take left least limit stop value [] x small fits e = absurd (either_error (nat_lt value least) left x e)
digits_take left least limit stop value (c ∷ t) x small fits e =
    elim (chosen (is_digit c) _ _ (Ok x) e) as (λ _. Takes least limit stop value (c ∷ t) x) [
      | inl h ↦
          let z = err_else (value == 0) _ _ x h.1 in
          let f = err_else (nat_lt limit (with_digit value c)) _ _ x z.1 in
          let some : 0 < value = grind (arith, z.0) in
          let le : with_digit value c ≤ limit = ltb-false limit (with_digit value c) f.0 in
          let r = digits_take left least limit stop (with_digit value c) t x small le f.1 in
          record { text = sym (more_digits value c t (omega (arith, le, small)) h.0 some) ∙ r.text; least_is = r.least_is; limit_is = r.limit_is }
      | inr h ↦ at_stop left least limit stop value c t x fits h.1
    ]

-- What is read is written so.
pub number_takes : (least limit stop : ℕ) (t : List ℕ) (x : ℕ × List ℕ) → limit < 2 ^ 64 → number_at least limit stop t ≡ Ok x → (t ≡ number_text stop x.0 ++ x.1) × (least ≤ x.0) × (x.0 ≤ limit)
unfolding number_at
number_takes least limit stop [] x small e = absurd cc
number_takes least limit stop (c ∷ t) x small e =
    elim (chosen (is_digit c) _ _ (Ok x) e) as (λ _. (c ∷ t ≡ number_text stop x.0 ++ x.1) × (least ≤ x.0) × (x.0 ≤ limit)) [
      | inl h ↦
          let f = err_else (nat_lt limit (with_digit 0 c)) _ _ x h.1 in
          let le : with_digit 0 c ≤ limit = ltb-false limit (with_digit 0 c) f.0 in
          let r = digits_take (length (c ∷ t)) least limit stop (with_digit 0 c) t x small le f.1 in
          (sym (first_digit c t h.0) ∙ r.text, r.least_is, r.limit_is)
      | inr h ↦ absurd cc
    ]

is_digit_from : (c : ℕ) → 48 ≤ c → c ≤ 57 → is_digit c ≡ true
is_digit_from c low high = grind (arith, le-leb 48 c low, le-leb c 57 high)

pub one_digit : (left least limit stop value m c : ℕ) (some : Bool) (t : List ℕ) → is_digit c ≡ true → (some && (value == 0)) ≡ false → with_digit value c ≡ m → m ≤ limit → number_on left least limit stop some value (c ∷ t) ≡ number_on left least limit stop true m t
one_digit left least limit stop value m c some t digit nonzero is fits =
    let lt : nat_lt limit (with_digit value c) ≡ false = le-ltb limit (with_digit value c) (omega (arith, is)) in
    rw (digit, nonzero, lt) (ap (λ k. number_on left least limit stop true k t) is)

pub not_zero : (n : ℕ) → 0 < n → (true && (n == 0)) ≡ false
not_zero n some = grind arith

-- What is written so is read, whatever follows.
pub number_again : (least limit stop n : ℕ) (rest : List ℕ) → limit < 2 ^ 64 → is_digit stop ≡ false → least ≤ n → n ≤ limit → number_at least limit stop (number_text stop n ++ rest) ≡ Ok (n, rest)
unfolding number_at
number_again least limit stop n rest small no_digit le fits =
    let left = length (number_text stop n ++ rest) in
    let digits = decimal_by_steps (λ m ds. m ≤ limit → (t : List ℕ) → number_on left least limit stop false 0 (ds ++ t) ≡ number_on left least limit stop true m t)
    (λ m lt fit t. one_digit left least limit stop 0 m (48 + m) false t (is_digit_from (48 + m) (omega arith) (omega arith)) refl (omega arith) fit)
    (λ m ds ge ih fit t.
    ap (number_on left least limit stop false 0) (append_assoc ds ((48 + m % 10) ∷ []) t)
    ∙ ih (omega arith) ((48 + m % 10) ∷ t)
    ∙ one_digit left least limit stop (m / 10) m (48 + m % 10) true t (is_digit_from (48 + m % 10) (omega arith) (omega arith)) (not_zero (m / 10) (omega arith)) (omega arith) fit)
    n (omega arith) fits (stop ∷ rest) in
    let end : number_on left least limit stop true n (stop ∷ rest) ≡ Ok (n, rest) = rw (no_digit, le-leb least n le, eq-eqb stop stop refl) refl in
    ap (number_on left least limit stop false 0) (append_assoc (decimal n) (stop ∷ []) rest) ∙ digits ∙ end
