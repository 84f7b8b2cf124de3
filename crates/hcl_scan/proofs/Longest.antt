-- What the scanner finds is the longest lexeme, and the only longest one; where it finds none there is none.
use Rattle.std.proofs.Common.{◌≡◌, ◌≢◌, ℕ, Bool, true, false, ◌==◌, ◌⊎◌, List, [], ◌∷◌, ◌++◌, length, slice_index, IsUtf8, Some, None, refl, sym, ap, ap₂, subst, ◌∙◌, inl, inr, arith}
use Rattle.std.proofs.lemmas.Bool.{both_ways, eqb-true, or_cases, false_from_ne_true}
use Rattle.std.specs.List.{prefix_len}
use Rattle.hcl_token.specs.declared.kind.Kind.{Kind}
use Rattle.hcl_scan.specs.Characters.{is_whitespace}
use Rattle.hcl_scan.specs.Modes.{Mode, is_literal}
use Rattle.hcl_scan.specs.Modes.Mode.{Expression, Sequence, Braces, Quoted, Heredoc}
use Rattle.hcl_scan.specs.Inner.Markers.{HasMarker}
use Rattle.hcl_scan.specs.Lexeme.{IsLexeme, IsLongest}
use Rattle.hcl_scan.specs.Inner.NextToken.{LexedToken, token, gap_length}
use Rattle.hcl_scan.specs.Tokenization.{IsGap}
use Rattle.hcl_scan.proofs.Found.{IsFound, Sound, Beats}
use Rattle.hcl_scan.proofs.HeredocLemmas.{prefix_adds}
use Rattle.hcl_scan.proofs.Sound.{sound}
use Rattle.hcl_scan.proofs.Beats.{beats}

-- what is found is the longest
pub found_longest : (mode : Mode) (t : List ℕ) (kind : Kind) (n : ℕ) → HasMarker mode → token mode t ≡ Some (kind, n) → (f : IsFound mode t kind n) → IsLongest mode kind f.spelling f.rest
found_longest mode t kind n m is f = (
  f.lexeme,
  λ other s' rest' lexeme same.
      let found : token mode (s' ++ rest') ≡ Some (kind, n) = ap (token mode) (same ∙ sym f.text_is) ∙ is in
      let b : Beats (Some (kind, n)) other (length s') = subst (λ x. Beats x other (length s')) found (beats mode other s' rest' m lexeme) in
      elim b [ inl less ↦ omega (arith, f.len, less) | inr both ↦ omega (arith, f.len, both.0) ],
)

-- the longest is what is found
pub longest_found : (mode : Mode) (kind : Kind) (s rest : List ℕ) → HasMarker mode → IsUtf8 (s ++ rest) → IsLongest mode kind s rest → token mode (s ++ rest) ≡ Some (kind, length s)
longest_found mode kind s rest m u longest = by_found (token mode (s ++ rest)) (sound mode (s ++ rest) m u) (beats mode kind s rest m longest.0)
  where
    by_found : (x : LexedToken) → Sound mode (s ++ rest) x → Beats x kind (length s) → x ≡ Some (kind, length s)
    by_found None f b = absurd b
    by_found (Some (k, n)) f (inl less) =
        absurd (omega (arith, f.len, less, longest.1 k f.spelling f.rest f.lexeme (sym f.text_is)))
    by_found (Some (k, n)) f (inr both) = ap₂ (λ x y. Some (x, y)) (sym both.1) (sym both.0)

-- no lexeme where none is found
pub none_found : (mode : Mode) (t : List ℕ) → HasMarker mode → token mode t ≡ None → (kind : Kind) (s rest : List ℕ) → IsLexeme mode kind s rest → s ++ rest ≢ t
none_found mode t m none kind s rest lexeme same =
    subst (λ x. Beats x kind (length s)) (ap (token mode) same ∙ none) (beats mode kind s rest m lexeme)

-- ---- gaps

prefix_stops : (p : ℕ → Bool) (t : List ℕ) → p (slice_index t 0) ≡ false → prefix_len p t ≡ 0
prefix_stops p [] h = refl
prefix_stops p (b ∷ t) h = rw h refl

-- no token begins with a blank
whitespace_none : (mode : Mode) (t : List ℕ) (b : ℕ) → is_literal mode ≡ false → slice_index t 0 ≡ b → (b ≡ 32) ⊎ (b ≡ 9) → token mode t ≡ None
whitespace_none Expression t b plain e (inl h) = rw (e, h) refl
whitespace_none Expression t b plain e (inr h) = rw (e, h) refl
whitespace_none Sequence t b plain e (inl h) = rw (e, h) refl
whitespace_none Sequence t b plain e (inr h) = rw (e, h) refl
whitespace_none Braces t b plain e (inl h) = rw (e, h) refl
whitespace_none Braces t b plain e (inr h) = rw (e, h) refl
whitespace_none Quoted t b plain e h = absurd (both_ways true plain refl)
whitespace_none (Heredoc name at_line_start) t b plain e h = absurd (both_ways true plain refl)

whitespace_found : (b : ℕ) → is_whitespace b ≡ true → (b ≡ 32) ⊎ (b ≡ 9)
whitespace_found b h = elim (or_cases (b == 32) (b == 9) h) [ inl e ↦ inl (eqb-true b 32 e) | inr e ↦ inr (eqb-true b 9 e) ]

pub token_no_whitespace : (mode : Mode) (t : List ℕ) (f : Kind × ℕ) → is_literal mode ≡ false → token mode t ≡ Some f → is_whitespace (slice_index t 0) ≡ false
token_no_whitespace mode t f plain is =
    false_from_ne_true _ (λ is_white. let none = whitespace_none mode t (slice_index t 0) plain refl (whitespace_found (slice_index t 0) is_white) in absurd (cc))

-- a gap is as long as the whitespace before a text that begins with none
pub gap_is : (mode : Mode) (gap rest : List ℕ) → IsGap mode gap → (is_literal mode ≡ false → is_whitespace (slice_index rest 0) ≡ false) → length gap ≡ gap_length mode (gap ++ rest)
gap_is mode gap rest is stop =
    elim (is_literal mode) as (λ b. is_literal mode ≡ b → length gap ≡ gap_length mode (gap ++ rest)) [
      | true ↦ λ h. rw h (ap length (is.1 h))
      | false ↦ λ h. rw h (omega (arith, prefix_adds is_whitespace gap rest is.0, prefix_stops is_whitespace rest (stop h)))
    ] refl
