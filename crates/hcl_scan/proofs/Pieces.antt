-- The leading digits and the leading characters of a word, and the parts of a number.
use Rattle.std.proofs.Common.{◌≡◌, ℕ, suc, ◌+◌, ◌<◌, Bool, true, false, ◌&&◌, ◌==◌, List, [], ◌∷◌, ◌++◌, length, take, drop, slice_index, IsUtf8, IsTrue, refl, sym, ap, subst, ◌∙◌, inl, inr, arith, length-append, length-take-le, take-append-drop, get_or-drop, drop-drop, encode_utf8, encode_utf8_all}
use Rattle.std.proofs.lemmas.Bool.{cond_both, eqb-true, and_parts, or_cases}
use Rattle.std.proofs.lemmas.Bool.Decides.{nat_tests}
use Rattle.std.proofs.lemmas.List.Sums.{prefix_len-le-length}
use Rattle.std.proofs.lemmas.Str.{length-encode}
use Rattle.std.specs.Char.{is_ascii_digit}
use Rattle.std.specs.Cmp.Derive.{both_true}
use Rattle.std.specs.List.{list_all, prefix_len}
use Rattle.std.specs.Str.{all_scalars}
use Rattle.hcl_scan.specs.Characters.{is_id_continue}
use Rattle.hcl_scan.specs.Lexeme.{is_decimal, IsFraction, IsSign, IsExponent}
use Rattle.hcl_scan.specs.Inner.NextToken.{id_continue_length, decimal_length, fraction_length, is_sign, is_exponent_letter, exponent_length}
use Rattle.hcl_scan.proofs.TextLemmas.{first_1, utf8_tail}

-- ---- digits

pub prefix_all : (p : ℕ → Bool) (t : List ℕ) → list_all p (take (prefix_len p t) t) ≡ true
prefix_all p [] = refl
prefix_all p (b ∷ t) =
    cond_both (p b) _ _ (λ n. list_all p (take n (b ∷ t)) ≡ true)
    (λ h. let more : suc (prefix_len p t) ≡ 1 + prefix_len p t = omega arith in
    subst (λ n. list_all p (take n (b ∷ t)) ≡ true) more (both_true h (prefix_all p t)))
    (λ _. refl)

-- the text is a piece of n bytes, and the rest
pub record Split (Is : List ℕ → Type 0) (n : ℕ) (t : List ℕ) : Type 0 where
  pub prefix : List ℕ
  pub rest : List ℕ
  pub text_is : t ≡ prefix ++ rest
  pub len : length prefix ≡ n
  pub is : Is prefix
  pub following : rest ≡ drop n t
  pub utf8 : IsUtf8 t → IsUtf8 rest

pub utf8_after_digits : (s rest : List ℕ) → list_all is_ascii_digit s ≡ true → IsUtf8 (s ++ rest) → IsUtf8 rest
utf8_after_digits [] rest all u = u
utf8_after_digits (d ∷ ds) rest all u =
    let both = and_parts (is_ascii_digit d) (list_all is_ascii_digit ds) all in
    let ascii : d < 128 = grind (arith, nat_tests) in
    utf8_after_digits ds rest both.1 (utf8_tail d (ds ++ rest) ascii u)

pub decimal_from : (s : List ℕ) → 0 < length s → list_all is_ascii_digit s ≡ true → IsTrue (is_decimal s)
decimal_from [] some all = absurd (omega arith)
decimal_from (d ∷ ds) some all = all

pub decimal_some : (t : List ℕ) → is_ascii_digit (slice_index t 0) ≡ true → 0 < decimal_length t
decimal_some [] h = absurd (cc)
decimal_some (b ∷ t) h = rw h (omega arith)

pub decimal_split : (t : List ℕ) → is_ascii_digit (slice_index t 0) ≡ true → Split (λ s. IsTrue (is_decimal s)) (decimal_length t) t
decimal_split t digit =
    let n : ℕ = decimal_length t in
    let some : 0 < n = decimal_some t digit in
    let size : length (take n t) ≡ n = length-take-le n t (prefix_len-le-length is_ascii_digit t) in
    let all : list_all is_ascii_digit (take n t) ≡ true = prefix_all is_ascii_digit t in
    let whole : t ≡ take n t ++ drop n t = sym (take-append-drop n t) in
    record {
      prefix = take n t;
      rest = drop n t;
      text_is = whole;
      len = size;
      is = decimal_from (take n t) (omega (arith, size, some)) all;
      following = refl;
      utf8 = λ u. utf8_after_digits (take n t) (drop n t) all (subst IsUtf8 whole u);
    }

-- ---- characters of a word

-- the leading characters that continue an identifier
pub record ContinueSplit (cs : List ℕ) : Type 0 where
  pub prefix : List ℕ
  pub rest : List ℕ
  pub text_is : cs ≡ prefix ++ rest
  pub len : length (encode_utf8_all prefix) ≡ id_continue_length cs
  pub all : list_all is_id_continue prefix ≡ true

pub continue_split : (cs : List ℕ) → ContinueSplit cs
continue_split [] = record { prefix = []; rest = []; text_is = refl; len = refl; all = refl }
continue_split (c ∷ cs) =
    elim (is_id_continue c) as (λ b. is_id_continue c ≡ b → ContinueSplit (c ∷ cs)) [
      | true ↦ λ h.
          let s : ContinueSplit cs = continue_split cs in
          record {
            prefix = c ∷ s.prefix;
            rest = s.rest;
            text_is = ap (λ (x : List ℕ). c ∷ x) s.text_is;
            len = rw h (length-append (encode_utf8 c) (encode_utf8_all s.prefix) ∙ omega (arith, length-encode c, s.len));
            all = both_true h s.all;
          }
      | false ↦ λ h. record { prefix = []; rest = c ∷ cs; text_is = refl; len = rw h refl; all = refl }
    ] refl

pub scalars_parts : (xs ys : List ℕ) → all_scalars (xs ++ ys) ≡ true → (all_scalars xs ≡ true) × (all_scalars ys ≡ true)
scalars_parts [] ys h = (refl, h)
scalars_parts (x ∷ xs) ys h =
    let both = and_parts _ (all_scalars (xs ++ ys)) h in
    let rest = scalars_parts xs ys both.1 in
    (both_true both.0 rest.0, rest.1)

-- ---- numbers

-- a piece of no bytes
none_split : (Is : List ℕ → Type 0) (t : List ℕ) → Is [] → Split Is 0 t
none_split Is t is = record { prefix = []; rest = t; text_is = refl; len = refl; is = is; following = refl; utf8 = λ u. u }

-- one ASCII byte more before a piece
after_1 : (Is More : List ℕ → Type 0) (t : List ℕ) (x n : ℕ) → t ≡ x ∷ drop 1 t → x < 128 → Split Is n (drop 1 t) → ((s : List ℕ) → Is s → More (x ∷ s)) → Split More (1 + n) t
after_1 Is More t x n e h s more = record {
  prefix = x ∷ s.prefix;
  rest = s.rest;
  text_is = e ∙ ap (λ (y : List ℕ). x ∷ y) s.text_is;
  len = omega (arith, s.len);
  is = more s.prefix s.is;
  following = s.following ∙ drop-drop n 1 t ∙ ap (λ k. drop k t) (omega arith);
  utf8 = λ u. s.utf8 (utf8_tail x (drop 1 t) h (subst IsUtf8 e u));
}

at_drop : (t : List ℕ) → slice_index (drop 1 t) 0 ≡ slice_index t 1
at_drop t = get_or-drop 1 t 0 0

pub fraction_split : (t : List ℕ) → Split IsFraction (fraction_length t) t
fraction_split t =
    cond_both (slice_index t 0 == 46 && is_ascii_digit (slice_index t 1)) _ _ (λ n. Split IsFraction n t)
    (λ h.
    let both = and_parts (slice_index t 0 == 46) (is_ascii_digit (slice_index t 1)) h in
    let e : t ≡ 46 ∷ drop 1 t = first_1 t 46 (eqb-true (slice_index t 0) 46 both.0) (omega arith) in
    after_1 (λ s. IsTrue (is_decimal s)) IsFraction t 46 _ e (omega arith) (decimal_split (drop 1 t) (ap is_ascii_digit (at_drop t) ∙ both.1))
    (λ s is. inr (s, refl, is)))
    (λ _. none_split IsFraction t (inl refl))

-- letters and signs are ASCII
letter_ascii : (b : ℕ) → is_exponent_letter b ≡ true → b < 128
letter_ascii b h = grind (arith, nat_tests)

letter_some : (b : ℕ) → is_exponent_letter b ≡ true → 0 < b
letter_some b h = grind (arith, nat_tests)

sign_ascii : (b : ℕ) → is_sign b ≡ true → b < 128
sign_ascii b h = grind (arith, nat_tests)

sign_some : (b : ℕ) → is_sign b ≡ true → 0 < b
sign_some b h = grind (arith, nat_tests)

sign_is : (b : ℕ) → is_sign b ≡ true → IsSign (b ∷ [])
sign_is b h =
    elim (or_cases (b == 43) (b == 45) h) [
      | inl e ↦ inr (inl (ap (λ x. x ∷ []) (eqb-true b 43 e)))
      | inr e ↦ inr (inr (ap (λ x. x ∷ []) (eqb-true b 45 e)))
    ]

-- perhaps a sign, and digits
IsSigned : List ℕ → Type 0
IsSigned s = (sign : List ℕ) × (digits : List ℕ) × (s ≡ sign ++ digits) × IsSign sign × IsTrue (is_decimal digits)

pub exponent_split : (t : List ℕ) → Split IsExponent (exponent_length t) t
unfolding IsSigned
exponent_split t =
    cond_both (is_exponent_letter (slice_index t 0)) _ 0 (λ n. Split IsExponent n t)
    (λ h.
    let letter : ℕ = slice_index t 0 in
    let ascii : letter < 128 = letter_ascii letter h in
    let e : t ≡ letter ∷ drop 1 t = first_1 t letter refl (letter_some letter h) in
    let more : (s : List ℕ) → IsSigned s → IsExponent (letter ∷ s) = λ s is. inr (letter, is.0, is.1, ap (λ (y : List ℕ). letter ∷ y) is.2, h, is.3, is.4) in
    cond_both (is_ascii_digit (slice_index t 1)) _ _ (λ n. Split IsExponent n t)
    (λ digit.
    after_1 (λ s. IsTrue (is_decimal s)) IsExponent t letter _ e ascii (decimal_split (drop 1 t) (ap is_ascii_digit (at_drop t) ∙ digit))
    (λ s is. more s ([], s, refl, inl refl, is)))
    (λ _. cond_both (is_sign (slice_index t 1) && is_ascii_digit (slice_index t 2)) _ 0 (λ n. Split IsExponent n t)
    (λ k.
    let both = and_parts (is_sign (slice_index t 1)) (is_ascii_digit (slice_index t 2)) k in
    let t' : List ℕ = drop 1 t in
    let second : ℕ = slice_index t 1 in
    let e' : t' ≡ second ∷ drop 1 t' = first_1 t' second (at_drop t) (sign_some second both.0) in
    let third : slice_index (drop 1 t') 0 ≡ slice_index t 2 = at_drop t' ∙ get_or-drop 1 t 1 0 in
    let digits : Split (λ s. IsTrue (is_decimal s)) (decimal_length (drop 1 t')) (drop 1 t') = decimal_split (drop 1 t') (ap is_ascii_digit third ∙ both.1) in
    let signed : Split IsSigned (1 + decimal_length (drop 1 t')) t' =
    after_1 (λ s. IsTrue (is_decimal s)) IsSigned t' second _ e' (sign_ascii second both.0) digits (λ s is. (second ∷ [], s, refl, sign_is second both.0, is)) in
    let same : 1 + (1 + decimal_length (drop 1 t')) ≡ 2 + decimal_length (drop 2 t) = omega (arith, ap decimal_length (drop-drop 1 1 t)) in
    subst (λ n. Split IsExponent n t) same (after_1 IsSigned IsExponent t letter _ e ascii signed more))
    (λ _. none_split IsExponent t (inl refl))))
    (λ _. none_split IsExponent t (inl refl))
