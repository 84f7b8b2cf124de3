-- Each lexeme of the mode at the start of a text is what the scanner finds, or shorter.
use Rattle.std.proofs.Common.{◌≡◌, ◌≢◌, ℕ, ◌+◌, ◌<◌, true, false, ◌==◌, List, [], ◌∷◌, ◌++◌, length, slice_index, refl, sym, ap, subst, ◌∙◌, inl, inr, arith, append_assoc, length-append}
use Rattle.std.proofs.lemmas.Bool.{ne_eqb, and_parts, or_cases, eqb-true, false_from_ne_true, false≢true}
use Rattle.std.proofs.lemmas.Bool.Decides.{nat_tests}
use Rattle.std.specs.List.{concat}
use Rattle.hcl_token.specs.declared.kind.Kind.{Kind}
use Rattle.hcl_token.specs.declared.kind.Kind.TheVariants.{QuoteClose, InterpOpen, DirectiveOpen, QuoteLit}
use Rattle.hcl_scan.specs.Characters.{is_sigil}
use Rattle.hcl_scan.specs.Modes.{Mode}
use Rattle.hcl_scan.specs.Modes.Mode.{Expression, Sequence, Braces, Quoted, Heredoc}
use Rattle.hcl_scan.specs.Inner.Markers.{HasMarker}
use Rattle.hcl_scan.specs.Runs.{is_line_start_after, AreUnitsOf}
use Rattle.hcl_scan.specs.Inner.RunLength.{run_length}
use Rattle.hcl_scan.specs.Lexeme.{is_allowed_in, quote_unit, Spells, IsLexeme}
use Rattle.hcl_scan.specs.Inner.NextToken.{is_at_opening, quoted_token, token}
use Rattle.hcl_scan.proofs.Found.{Beats, same_kind}
use Rattle.hcl_scan.proofs.RunLemmas.{IsRun-adds}
use Rattle.hcl_scan.proofs.BeatsPlain.{spelt, ordinary_beats}
use Rattle.hcl_scan.proofs.HeredocBeats.{OpeningBeats, interp_beats, directive_beats, heredoc_token_beats}

-- ---- in quoted text

-- where a unit begins, neither the closing quote nor an opening does
pub unit_begins : (t : List ℕ) → 0 < quote_unit false t → ((slice_index t 0 == 34) ≡ false) × (is_at_opening t ≡ false)
unit_begins [] h = absurd (omega arith)
unit_begins (b ∷ rest) h = (
  ne_eqb b 34 (λ e. absurd (omega (arith, rw e at h))),
  false_from_ne_true _ (λ e.
      let both = and_parts (is_sigil b) (slice_index rest 0 == 123) e in
      let second : slice_index rest 0 ≡ 123 = eqb-true (slice_index rest 0) 123 both.1 in
      elim (or_cases (b == 36) (b == 37) both.0) [
        | inl k ↦ let first : b ≡ 36 = eqb-true b 36 k in absurd (omega (arith, rw (first, second) at h))
        | inr k ↦ let first : b ≡ 37 = eqb-true b 37 k in absurd (omega (arith, rw (first, second) at h))
      ]),
)

lit_beats : (us : List (List ℕ)) (s rest : List ℕ) → s ≡ concat us → s ≢ [] → AreUnitsOf quote_unit false us rest → Beats (quoted_token (s ++ rest)) QuoteLit (length s)
lit_beats [] s rest e filled are = absurd (filled e)
lit_beats (v ∷ vs) s rest e filled are =
    let t : List ℕ = s ++ rest in
    let more : List ℕ = concat vs ++ rest in
    let split : t ≡ v ++ more = ap (λ (x : List ℕ). x ++ rest) e ∙ append_assoc v (concat vs) rest in
    let unit : 0 < quote_unit false t = rw (split, are.1) are.0 in
    let begins = unit_begins t unit in
    let count : run_length quote_unit false t ≡ length s + run_length quote_unit (is_line_start_after false s) rest = IsRun-adds quote_unit false s rest (v ∷ vs, e, are) in
    let size : length s ≡ length v + length (concat vs) = ap length e ∙ length-append v (concat vs) in
    let some : (run_length quote_unit false t == 0) ≡ false = ne_eqb _ 0 (λ z. absurd (omega (arith, are.0))) in
    rw (begins.0, begins.1, some) (same_kind QuoteLit _ _ (omega arith))

-- a spelling that is written out, in place of its name
written : (kind : Kind) (s rest x : List ℕ) → s ≡ x → Beats (quoted_token (x ++ rest)) kind (length x) → Beats (quoted_token (s ++ rest)) kind (length s)
written kind s rest x e h = subst (λ (y : List ℕ). Beats (quoted_token (y ++ rest)) kind (length y)) (sym e) h

pub sigil_no_quote : (b : ℕ) → is_sigil b ≡ true → (b == 34) ≡ false
sigil_no_quote b h = grind (arith, nat_tests)

opens : (kind : Kind) (s rest : List ℕ) → OpeningBeats kind s rest → Beats (quoted_token (s ++ rest)) kind (length s)
opens kind s rest h =
    let t : List ℕ = s ++ rest in
    let no_quote : (slice_index t 0 == 34) ≡ false = sigil_no_quote (slice_index t 0) (and_parts (is_sigil (slice_index t 0)) (slice_index t 1 == 123) h.0).0 in
    rw (no_quote, h.0) h.1

quoted_beats : (kind : Kind) (s rest : List ℕ) → is_allowed_in Quoted kind ≡ true → Spells Quoted kind s rest → Beats (quoted_token (s ++ rest)) kind (length s)
quoted_beats QuoteClose s rest st e = written QuoteClose s rest _ (spelt _ s e) (inr (refl, refl))
quoted_beats InterpOpen s rest st e = opens InterpOpen s rest (interp_beats Quoted s rest e)
quoted_beats DirectiveOpen s rest st e = opens DirectiveOpen s rest (directive_beats Quoted s rest e)
quoted_beats QuoteLit s rest st (filled, (us, e, are)) = lit_beats us s rest e filled are
quoted_beats kind s rest st e = absurd (false≢true st)

-- ---- in each mode

pub beats : (mode : Mode) (kind : Kind) (s rest : List ℕ) → HasMarker mode → IsLexeme mode kind s rest → Beats (token mode (s ++ rest)) kind (length s)
beats Expression kind s rest m h = ordinary_beats Expression refl kind s rest h.0 h.1
beats Sequence kind s rest m h = ordinary_beats Sequence refl kind s rest h.0 h.1
beats Braces kind s rest m h = ordinary_beats Braces refl kind s rest h.0 h.1
beats Quoted kind s rest m h = quoted_beats kind s rest h.0 h.1
beats (Heredoc name at_line_start) kind s rest m h = heredoc_token_beats name at_line_start kind s rest m h
