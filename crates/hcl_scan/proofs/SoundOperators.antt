-- The operators that the scanner finds are lexemes.
use Rattle.std.proofs.Common.{◌≡◌, ℕ, ◌<◌, true, false, not, ◌&&◌, ◌||◌, ◌==◌, List, [], ◌∷◌, drop, slice_index, IsUtf8, None, refl, ap, subst, ◌∙◌, arith, get_or-drop}
use Rattle.std.proofs.lemmas.Bool.{cond_both, eqb-true, and_parts}
use Rattle.hcl_token.specs.declared.kind.Kind.{Kind}
use Rattle.hcl_token.specs.declared.kind.Kind.TheVariants.{Plus, Minus, Star, Slash, Percent, And, Or, Bang, DoubleEqual, NotEqual, Less, Greater, LessEqual, GreaterEqual, Question, Colon, DoubleColon, Equal, FatArrow, OpenBrace, OpenBracket, CloseBracket, OpenParen, CloseParen, Comma, Dot, Ellipsis}
use Rattle.hcl_scan.specs.Modes.{Mode, is_literal}
use Rattle.hcl_scan.specs.Lexeme.{IsLexeme}
use Rattle.hcl_scan.specs.Inner.NextToken.{LexedToken, single, compound, is_compound, operator}
use Rattle.hcl_scan.proofs.Found.{IsFound, Sound}
use Rattle.hcl_scan.proofs.TextLemmas.{first_1, first_2, first_3, utf8_tail}

-- a spelling of one, two or three ASCII bytes
module _ (mode : Mode) (t : List ℕ) (u : IsUtf8 t) where
  pub fixed_1 : (kind : Kind) (x : ℕ) → t ≡ x ∷ drop 1 t → x < 128 → IsLexeme mode kind (x ∷ []) (drop 1 t) → IsFound mode t kind 1
  fixed_1 kind x e h lexeme = record {
    spelling = x ∷ [];
    rest = drop 1 t;
    text_is = e;
    len = refl;
    lexeme = lexeme;
    some = omega arith;
    utf8 = utf8_tail x (drop 1 t) h (subst IsUtf8 e u);
  }

  pub fixed_2 : (kind : Kind) (x y : ℕ) → t ≡ x ∷ y ∷ drop 2 t → x < 128 → y < 128 → IsLexeme mode kind (x ∷ y ∷ []) (drop 2 t) → IsFound mode t kind 2
  fixed_2 kind x y e h k lexeme = record {
    spelling = x ∷ y ∷ [];
    rest = drop 2 t;
    text_is = e;
    len = refl;
    lexeme = lexeme;
    some = omega arith;
    utf8 = utf8_tail y (drop 2 t) k (utf8_tail x (y ∷ drop 2 t) h (subst IsUtf8 e u));
  }

  pub fixed_3 : (kind : Kind) (x y z : ℕ) → t ≡ x ∷ y ∷ z ∷ drop 3 t → x < 128 → y < 128 → z < 128 → IsLexeme mode kind (x ∷ y ∷ z ∷ []) (drop 3 t) → IsFound mode t kind 3
  fixed_3 kind x y z e h k l lexeme = record {
    spelling = x ∷ y ∷ z ∷ [];
    rest = drop 3 t;
    text_is = e;
    len = refl;
    lexeme = lexeme;
    some = omega arith;
    utf8 = utf8_tail z (drop 3 t) l (utf8_tail y (z ∷ drop 3 t) k (utf8_tail x (y ∷ z ∷ drop 3 t) h (subst IsUtf8 e u)));
  }

  pub at_1 : (x : ℕ) → (slice_index t 0 == x) ≡ true → 0 < x → t ≡ x ∷ drop 1 t
  at_1 x h some = first_1 t x (eqb-true (slice_index t 0) x h) some

  pub at_2 : (x y : ℕ) → (slice_index t 0 == x) ≡ true → (slice_index t 1 == y) ≡ true → 0 < x → 0 < y → t ≡ x ∷ y ∷ drop 2 t
  at_2 x y h k some more = first_2 t x y (eqb-true (slice_index t 0) x h) (eqb-true (slice_index t 1) y k) some more

  pub at_3 : (x y z : ℕ) → (slice_index t 0 == x) ≡ true → (slice_index t 1 == y) ≡ true → (slice_index t 2 == z) ≡ true → 0 < x → 0 < y → 0 < z → t ≡ x ∷ y ∷ z ∷ drop 3 t
  at_3 x y z h k l = first_3 t x y z (eqb-true (slice_index t 0) x h) (eqb-true (slice_index t 1) y k) (eqb-true (slice_index t 2) z l)

  module _ (plain : is_literal mode ≡ false) where
    outside : not (is_literal mode) ≡ true
    outside = ap not plain

    one : (kind : Kind) (x : ℕ) → (slice_index t 0 == x) ≡ true → 0 < x → x < 128 → IsLexeme mode kind (x ∷ []) (drop 1 t) → IsFound mode t kind 1
    one kind x h some ascii lexeme = fixed_1 kind x (at_1 x h some) ascii lexeme

    two : (kind : Kind) (x y : ℕ) → (slice_index t 0 == x) ≡ true → (slice_index t 1 == y) ≡ true → 0 < x → x < 128 → 0 < y → y < 128
        → IsLexeme mode kind (x ∷ y ∷ []) (drop 2 t) → IsFound mode t kind 2
    two kind x y h k some ascii more ascii' lexeme = fixed_2 kind x y (at_2 x y h k some more) ascii ascii' lexeme

    single_sound : Sound mode t (single (slice_index t 0))
    single_sound =
        let a : ℕ = slice_index t 0 in
        let P : LexedToken → Type 0 = λ f. Sound mode t f in
        cond_both (a == 123) _ _ P (λ h. one OpenBrace 123 h (omega arith) (omega arith) (outside, refl))
        (λ _. cond_both (a == 91) _ _ P (λ h. one OpenBracket 91 h (omega arith) (omega arith) (outside, refl))
        (λ _. cond_both (a == 93) _ _ P (λ h. one CloseBracket 93 h (omega arith) (omega arith) (outside, refl))
        (λ _. cond_both (a == 40) _ _ P (λ h. one OpenParen 40 h (omega arith) (omega arith) (outside, refl))
        (λ _. cond_both (a == 41) _ _ P (λ h. one CloseParen 41 h (omega arith) (omega arith) (outside, refl))
        (λ _. cond_both (a == 44) _ _ P (λ h. one Comma 44 h (omega arith) (omega arith) (outside, refl))
        (λ _. cond_both (a == 63) _ _ P (λ h. one Question 63 h (omega arith) (omega arith) (outside, refl))
        (λ _. cond_both (a == 43) _ _ P (λ h. one Plus 43 h (omega arith) (omega arith) (outside, refl))
        (λ _. cond_both (a == 45) _ _ P (λ h. one Minus 45 h (omega arith) (omega arith) (outside, refl))
        (λ _. cond_both (a == 42) _ _ P (λ h. one Star 42 h (omega arith) (omega arith) (outside, refl))
        (λ _. cond_both (a == 37) _ None P (λ h. one Percent 37 h (omega arith) (omega arith) (outside, refl))
        (λ _. tt)))))))))))

    compound_sound : Sound mode t (compound (slice_index t 0) (slice_index t 1) (slice_index t 2))
    compound_sound =
        let a : ℕ = slice_index t 0 in
        let b : ℕ = slice_index t 1 in
        let c : ℕ = slice_index t 2 in
        let P : LexedToken → Type 0 = λ f. Sound mode t f in
        cond_both (a == 61) _ _ P
        (λ h. cond_both (b == 61) _ _ P (λ k. two DoubleEqual 61 61 h k (omega arith) (omega arith) (omega arith) (omega arith) (outside, refl))
        (λ _. cond_both (b == 62) _ _ P (λ k. two FatArrow 61 62 h k (omega arith) (omega arith) (omega arith) (omega arith) (outside, refl)) (λ _. one Equal 61 h (omega arith) (omega arith) (outside, refl))))
        (λ _. cond_both (a == 46) _ _ P
        (λ h. cond_both (b == 46 && c == 46) _ _ P
        (λ k. let both = and_parts (b == 46) (c == 46) k in
        fixed_3 Ellipsis 46 46 46 (at_3 46 46 46 h both.0 both.1 (omega arith) (omega arith) (omega arith)) (omega arith) (omega arith) (omega arith) (outside, refl))
        (λ _. one Dot 46 h (omega arith) (omega arith) (outside, refl)))
        (λ _. cond_both (a == 58) _ _ P
        (λ h. cond_both (b == 58) _ _ P (λ k. two DoubleColon 58 58 h k (omega arith) (omega arith) (omega arith) (omega arith) (outside, refl)) (λ _. one Colon 58 h (omega arith) (omega arith) (outside, refl)))
        (λ _. cond_both (a == 33) _ _ P
        (λ h. cond_both (b == 61) _ _ P (λ k. two NotEqual 33 61 h k (omega arith) (omega arith) (omega arith) (omega arith) (outside, refl)) (λ _. one Bang 33 h (omega arith) (omega arith) (outside, refl)))
        (λ _. cond_both (a == 60) _ _ P
        (λ h. cond_both (b == 61) _ _ P (λ k. two LessEqual 60 61 h k (omega arith) (omega arith) (omega arith) (omega arith) (outside, refl)) (λ _. one Less 60 h (omega arith) (omega arith) (outside, refl)))
        (λ _. cond_both (a == 62) _ _ P
        (λ h. cond_both (b == 61) _ _ P (λ k. two GreaterEqual 62 61 h k (omega arith) (omega arith) (omega arith) (omega arith) (outside, refl)) (λ _. one Greater 62 h (omega arith) (omega arith) (outside, refl)))
        (λ _. cond_both (a == 38) _ _ P
        (λ h. cond_both (b == 38) _ None P (λ k. two And 38 38 h k (omega arith) (omega arith) (omega arith) (omega arith) (outside, refl)) (λ _. tt))
        (λ _. cond_both (a == 124) _ _ P
        (λ h. cond_both (b == 124) _ None P (λ k. two Or 124 124 h k (omega arith) (omega arith) (omega arith) (omega arith) (outside, refl)) (λ _. tt))
        (λ _. cond_both (a == 47) _ None P
        (λ h. cond_both (b == 42 || b == 47) None _ P (λ _. tt)
        (λ k. one Slash 47 h (omega arith) (omega arith) (outside, (refl, ap (λ x. x == 42 || x == 47) (get_or-drop 1 t 0 0) ∙ k))))
        (λ _. tt)))))))))

    pub operator_sound : Sound mode t (operator (slice_index t 0) (slice_index t 1) (slice_index t 2))
    operator_sound = cond_both (is_compound (slice_index t 0)) _ _ (λ f. Sound mode t f) (λ _. compound_sound) (λ _. single_sound)
