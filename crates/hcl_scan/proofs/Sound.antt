-- What the scanner finds at the start of a text is a lexeme of the mode.
use Rattle.std.proofs.Common.{◌≡◌, ◌≢◌, ℕ, ◌<◌, true, false, not, ◌&&◌, cond, ◌==◌, List, [], ◌∷◌, length, drop, slice_index, IsUtf8, Some, None, refl, ap, subst, inl, inr, arith}
use Rattle.std.proofs.lemmas.Bool.{cond_both, and_parts, or_cases}
use Rattle.std.proofs.lemmas.Bool.Decides.{nat_tests}
use Rattle.std.specs.Char.{is_ascii_digit}
use Rattle.std.specs.Cmp.Derive.{both_true}
use Rattle.hcl_token.specs.declared.kind.Kind.TheVariants.{LineEnd, CloseBrace, Less, QuoteOpen, SeqClose, QuoteClose, InterpOpen, DirectiveOpen}
use Rattle.hcl_scan.specs.Characters.{is_sigil}
use Rattle.hcl_scan.specs.Modes.{Mode, is_literal, can_close_sequence}
use Rattle.hcl_scan.specs.Modes.Mode.{Expression, Sequence, Braces, Quoted, Heredoc}
use Rattle.hcl_scan.specs.Inner.Markers.{HasMarker}
use Rattle.hcl_scan.specs.Runs.{is_line_start_after}
use Rattle.hcl_scan.specs.Inner.RunLength.{run_length}
use Rattle.hcl_scan.specs.Lexeme.{quote_unit}
use Rattle.hcl_scan.specs.Inner.HeredocToken.{here_open}
use Rattle.hcl_scan.specs.Inner.NextToken.{LexedToken, is_word_start, heredoc_or_less, punctuation, expression_token, is_at_opening, opening, quoted_token, token}
use Rattle.hcl_scan.proofs.Found.{IsFound, Sound}
use Rattle.hcl_scan.proofs.HeredocSound.{here_open_sound, heredoc_token_sound}
use Rattle.hcl_scan.proofs.RunLemmas.{RunSplit, run-split}
use Rattle.hcl_scan.proofs.SoundOperators.{fixed_1, fixed_2, fixed_3, at_1, at_2, at_3, operator_sound}
use Rattle.hcl_scan.proofs.SoundWords.{comment_of, inline_sound, number_sound, index_sound, identifier_sound}
use Rattle.hcl_scan.proofs.TextLemmas.{utf8_rest}
use Rattle.hcl_scan.proofs.UnitLemmas.{quote_unit_fits, quote_stops}

-- ---- outside of literal text

module _ (mode : Mode) (t : List ℕ) (u : IsUtf8 t) (plain : is_literal mode ≡ false) where
  outside : not (is_literal mode) ≡ true
  outside = ap not plain

  punctuation_sound : Sound mode t (punctuation (can_close_sequence mode) t)
  punctuation_sound =
      let a : ℕ = slice_index t 0 in
      let b : ℕ = slice_index t 1 in
      let P : LexedToken → Type 0 = λ f. Sound mode t f in
      cond_both (a == 10) _ _ P
      (λ h. fixed_1 mode t u LineEnd 10 (at_1 mode t u 10 h (omega arith)) (omega arith) (outside, inl refl))
      (λ _. cond_both (a == 13) _ _ P
      (λ h. cond_both (b == 10) _ None P
      (λ k. fixed_2 mode t u LineEnd 13 10 (at_2 mode t u 13 10 h k (omega arith) (omega arith)) (omega arith) (omega arith) (outside, inr refl))
      (λ _. tt))
      (λ _. cond_both (a == 34) _ _ P
      (λ h. fixed_1 mode t u QuoteOpen 34 (at_1 mode t u 34 h (omega arith)) (omega arith) (outside, refl))
      (λ _. cond_both (a == 35) _ _ P
      (λ h. comment_of mode t u plain 1 (35 ∷ []) (at_1 mode t u 35 h (omega arith)) refl (omega arith) (λ body rest run. inl (body, refl, run)))
      (λ _. cond_both (a == 47 && b == 47) _ _ P
      (λ h. let both = and_parts (a == 47) (b == 47) h in
      comment_of mode t u plain 2 (47 ∷ 47 ∷ []) (at_2 mode t u 47 47 both.0 both.1 (omega arith) (omega arith)) refl (omega arith) (λ body rest run. inr (body, refl, run)))
      (λ _. cond_both (a == 47 && b == 42) _ _ P
      (λ h. let both = and_parts (a == 47) (b == 42) h in inline_sound mode t u plain (at_2 mode t u 47 42 both.0 both.1 (omega arith) (omega arith)))
      (λ _. cond_both (a == 46 && is_ascii_digit b) _ _ P
      (λ h. let both = and_parts (a == 46) (is_ascii_digit b) h in index_sound mode t u plain (at_1 mode t u 46 both.0 (omega arith)) both.1)
      (λ _. cond_both (a == 125) _ _ P
      (λ h. brace (at_1 mode t u 125 h (omega arith)))
      (λ _. cond_both (a == 126) _ _ P
      (λ h. cond_both (b == 125 && can_close_sequence mode) _ None P
      (λ k. let both = and_parts (b == 125) (can_close_sequence mode) k in
      fixed_2 mode t u SeqClose 126 125 (at_2 mode t u 126 125 h both.0 (omega arith) (omega arith)) (omega arith) (omega arith) (both.1, inr refl))
      (λ _. tt))
      (λ _. operator_sound mode t u plain)))))))))
    where
      brace : t ≡ 125 ∷ drop 1 t → Sound mode t (cond (can_close_sequence mode) (Some (SeqClose, 1)) (Some (CloseBrace, 1)))
      brace e =
          cond_both (can_close_sequence mode) _ _ (λ f. Sound mode t f)
          (λ k. fixed_1 mode t u SeqClose 125 e (omega arith) (k, inl refl))
          (λ k. fixed_1 mode t u CloseBrace 125 e (omega arith) (both_true (ap not k) outside, refl))

  less_sound : (slice_index t 0 == 60) ≡ true → (f : LexedToken) → Sound mode t f → Sound mode t (heredoc_or_less f)
  less_sound h None found = fixed_1 mode t u Less 60 (at_1 mode t u 60 h (omega arith)) (omega arith) (outside, refl)
  less_sound h (Some f) found = found

  expression_sound : Sound mode t (expression_token (can_close_sequence mode) t)
  expression_sound =
      cond_both (is_word_start (slice_index t 0)) _ _ (λ f. Sound mode t f)
      (λ _. identifier_sound mode t u plain)
      (λ _. cond_both (is_ascii_digit (slice_index t 0)) _ _ (λ f. Sound mode t f)
      (λ digit. number_sound mode t u plain digit)
      (λ _. cond_both (slice_index t 0 == 60 && slice_index t 1 == 60) _ _ (λ f. Sound mode t f)
      (λ h. less_sound (and_parts (slice_index t 0 == 60) (slice_index t 1 == 60) h).0 (here_open t) (here_open_sound mode plain t u))
      (λ _. punctuation_sound)))

-- ---- literal text

-- an opening of a template sequence
pub opening_sound : (mode : Mode) (t : List ℕ) → IsUtf8 t → is_literal mode ≡ true → is_at_opening t ≡ true → IsFound mode t (opening t).0 (opening t).1
opening_sound mode t u literal h =
    let both = and_parts (is_sigil (slice_index t 0)) (slice_index t 1 == 123) h in
    elim (or_cases (slice_index t 0 == 36) (slice_index t 0 == 37) both.0) [
      | inl e ↦ rw e (cond_both (slice_index t 2 == 126) 3 2 (λ n. IsFound mode t InterpOpen n)
          (λ k. fixed_3 mode t u InterpOpen 36 123 126 (at_3 mode t u 36 123 126 e both.1 k (omega arith) (omega arith) (omega arith)) (omega arith) (omega arith) (omega arith) (literal, inr refl))
          (λ _. fixed_2 mode t u InterpOpen 36 123 (at_2 mode t u 36 123 e both.1 (omega arith) (omega arith)) (omega arith) (omega arith) (literal, inl refl)))
      | inr e ↦
          let other : (slice_index t 0 == 36) ≡ false = grind (arith, nat_tests) in
          rw other (cond_both (slice_index t 2 == 126) 3 2 (λ n. IsFound mode t DirectiveOpen n)
          (λ k. fixed_3 mode t u DirectiveOpen 37 123 126 (at_3 mode t u 37 123 126 e both.1 k (omega arith) (omega arith) (omega arith)) (omega arith) (omega arith) (omega arith) (literal, inr refl))
          (λ _. fixed_2 mode t u DirectiveOpen 37 123 (at_2 mode t u 37 123 e both.1 (omega arith) (omega arith)) (omega arith) (omega arith) (literal, inl refl)))
    ]

quoted_sound : (t : List ℕ) → IsUtf8 t → Sound Quoted t (quoted_token t)
quoted_sound t u =
    let P : LexedToken → Type 0 = λ f. Sound Quoted t f in
    cond_both (slice_index t 0 == 34) _ _ P
    (λ h. fixed_1 Quoted t u QuoteClose 34 (at_1 Quoted t u 34 h (omega arith)) (omega arith) (refl, refl))
    (λ _. cond_both (is_at_opening t) _ _ P
    (λ h. opening_sound Quoted t u refl h)
    (λ _. cond_both (run_length quote_unit false t == 0) None _ P
    (λ _. tt)
    (λ h.
    let s : RunSplit quote_unit false t = run-split quote_unit quote_unit_fits false t in
    let some : 0 < run_length quote_unit false t = grind (arith, nat_tests) in
    let filled : s.prefix ≢ [] = λ e. absurd (omega (arith, s.len, ap length e)) in
    record {
      spelling = s.prefix;
      rest = s.rest;
      text_is = s.text_is;
      len = s.len;
      lexeme = (refl, (filled, s.run));
      some = some;
      utf8 = utf8_rest s.prefix s.rest (subst IsUtf8 s.text_is u) (quote_stops (is_line_start_after false s.prefix) s.rest s.stops);
    })))

pub sound : (mode : Mode) (t : List ℕ) → HasMarker mode → IsUtf8 t → Sound mode t (token mode t)
sound Expression t m u = expression_sound Expression t u refl
sound Sequence t m u = expression_sound Sequence t u refl
sound Braces t m u = expression_sound Braces t u refl
sound Quoted t m u = quoted_sound t u
sound (Heredoc name at_line_start) t m u = heredoc_token_sound name at_line_start t m u
