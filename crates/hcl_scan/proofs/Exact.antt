-- A lexeme is what is found, and so the longest one, if what follows does not go on with it.
use Rattle.std.proofs.Common.{◌≡◌, ◌≢◌, ℕ, ◌+◌, ◌<◌, Bool, true, false, ◌&&◌, ◌==◌, List, [], ◌∷◌, ◌++◌, length, slice_index, IsUtf8, Some, refl, sym, ap, subst, ◌∙◌, ◌⊎◌, inl, inr, arith, append_assoc, length-append}
use Rattle.std.proofs.lemmas.Bool.{ne_eqb, and_parts, false≢true}
use Rattle.std.specs.Cmp.Derive.{both_true}
use Rattle.std.specs.List.{concat}
use Rattle.hcl_token.specs.declared.kind.Kind.{Kind}
use Rattle.hcl_token.specs.declared.kind.Kind.TheVariants.{QuoteClose, InterpOpen, DirectiveOpen, QuoteLit, HereClose, HereLit}
use Rattle.hcl_scan.specs.Characters.{is_sigil}
use Rattle.hcl_scan.specs.Modes.{Mode}
use Rattle.hcl_scan.specs.Modes.Mode.{Expression, Sequence, Braces, Quoted, Heredoc}
use Rattle.hcl_scan.specs.Inner.Markers.{HasMarker}
use Rattle.hcl_scan.specs.Runs.{is_line_start_after, AreUnitsOf}
use Rattle.hcl_scan.specs.Inner.RunLength.{run_length}
use Rattle.hcl_scan.specs.Closing.{is_closing_line, heredoc_unit}
use Rattle.hcl_scan.specs.Lexeme.{is_allowed_in, quote_unit, IsIdentifier, Spells, IsLexeme, IsLongest}
use Rattle.hcl_scan.specs.Inner.HeredocToken.{heredoc_token}
use Rattle.hcl_scan.specs.Inner.NextToken.{is_at_opening, opening, quoted_token, token}
use Rattle.hcl_scan.proofs.Found.{IsFound, Sound}
use Rattle.hcl_scan.proofs.Sound.{sound}
use Rattle.hcl_scan.proofs.RunLemmas.{run_length-none, IsRun-adds}
use Rattle.hcl_scan.proofs.UnitLemmas.{quote_unit_any}
use Rattle.hcl_scan.proofs.HeredocLemmas.{close_found, unit_begins as here_unit_begins}
use Rattle.hcl_scan.proofs.HeredocBeats.{opening_no_closing}
use Rattle.hcl_scan.proofs.Beats.{unit_begins as quote_unit_begins, sigil_no_quote}
use Rattle.hcl_scan.proofs.BeatsPlain.{spelt}
use Rattle.hcl_scan.proofs.Longest.{found_longest}
use Rattle.hcl_scan.proofs.Unique.{split_same}
use Rattle.hcl_scan.proofs.Ends.{IsNot, Ends}
use Rattle.hcl_scan.proofs.ExactPlain.{ordinary_exact}

-- ---- the opening of a template sequence in literal text

abbrev IsOpening : Kind → List ℕ → List ℕ → Type 0
IsOpening kind s rest = (is_at_opening (s ++ rest) ≡ true) × (opening (s ++ rest) ≡ (kind, length s))

pub interp_is : (s rest : List ℕ) → (s ≡ 36 ∷ 123 ∷ []) ⊎ (s ≡ 36 ∷ 123 ∷ 126 ∷ []) → (length s ≡ 2 → IsNot 126 rest) → IsOpening InterpOpen s rest
interp_is s rest (inl e) ends =
    let none : IsNot 126 rest = ends (ap length e) in
    subst (λ (x : List ℕ). IsOpening InterpOpen x rest) (sym e) (refl, rw none refl)
interp_is s rest (inr e) ends = subst (λ (x : List ℕ). IsOpening InterpOpen x rest) (sym e) (refl, refl)

pub directive_is : (s rest : List ℕ) → (s ≡ 37 ∷ 123 ∷ []) ⊎ (s ≡ 37 ∷ 123 ∷ 126 ∷ []) → (length s ≡ 2 → IsNot 126 rest) → IsOpening DirectiveOpen s rest
directive_is s rest (inl e) ends =
    let none : IsNot 126 rest = ends (ap length e) in
    subst (λ (x : List ℕ). IsOpening DirectiveOpen x rest) (sym e) (refl, rw none refl)
directive_is s rest (inr e) ends = subst (λ (x : List ℕ). IsOpening DirectiveOpen x rest) (sym e) (refl, refl)

-- ---- quoted text

quoted_opening : (kind : Kind) (s rest : List ℕ) → IsOpening kind s rest → quoted_token (s ++ rest) ≡ Some (kind, length s)
quoted_opening kind s rest (begins, is) =
    let t : List ℕ = s ++ rest in
    let no_quote : (slice_index t 0 == 34) ≡ false = sigil_no_quote (slice_index t 0) (and_parts (is_sigil (slice_index t 0)) (slice_index t 1 == 123) begins).0 in
    rw (no_quote, begins) (ap (λ f. Some f) is)

quoted_lit : (us : List (List ℕ)) (s rest : List ℕ) → s ≡ concat us → s ≢ [] → AreUnitsOf quote_unit false us rest → quote_unit false rest ≡ 0 → quoted_token (s ++ rest) ≡ Some (QuoteLit, length s)
quoted_lit [] s rest e filled are ends = absurd (filled e)
quoted_lit (v ∷ vs) s rest e filled are ends =
    let t : List ℕ = s ++ rest in
    let more : List ℕ = concat vs ++ rest in
    let split : t ≡ v ++ more = ap (λ (x : List ℕ). x ++ rest) e ∙ append_assoc v (concat vs) rest in
    let unit : 0 < quote_unit false t = rw (split, are.1) are.0 in
    let begins = quote_unit_begins t unit in
    let none : run_length quote_unit (is_line_start_after false s) rest ≡ 0 = run_length-none quote_unit (is_line_start_after false s) rest (quote_unit_any (is_line_start_after false s) rest ∙ ends) in
    let count : run_length quote_unit false t ≡ length s = IsRun-adds quote_unit false s rest (v ∷ vs, e, are) ∙ omega (arith, none) in
    let size : length s ≡ length v + length (concat vs) = ap length e ∙ length-append v (concat vs) in
    let some : (run_length quote_unit false t == 0) ≡ false = ne_eqb (run_length quote_unit false t) 0 (λ z. absurd (omega (arith, are.0))) in
    rw (begins.0, begins.1, some) (ap (λ n. Some (QuoteLit, n)) count)

quoted_exact : (kind : Kind) (s rest : List ℕ) → is_allowed_in Quoted kind ≡ true → Spells Quoted kind s rest → Ends Quoted kind s rest → quoted_token (s ++ rest) ≡ Some (kind, length s)
quoted_exact QuoteClose s rest st e ends = subst (λ (x : List ℕ). quoted_token (x ++ rest) ≡ Some (QuoteClose, length x)) (sym (spelt _ s e)) refl
quoted_exact InterpOpen s rest st e ends = quoted_opening InterpOpen s rest (interp_is s rest e ends)
quoted_exact DirectiveOpen s rest st e ends = quoted_opening DirectiveOpen s rest (directive_is s rest e ends)
quoted_exact QuoteLit s rest st (filled, (us, e, are)) ends = quoted_lit us s rest e filled are ends
quoted_exact kind s rest st e ends = absurd (false≢true st)

-- ---- the text of a heredoc

heredoc_opening : (name : List ℕ) (at_line_start : Bool) (kind : Kind) (s rest : List ℕ) → IsIdentifier name → IsOpening kind s rest → heredoc_token name at_line_start (s ++ rest) ≡ Some (kind, length s)
heredoc_opening name at_line_start kind s rest ident (begins, is) = rw (opening_no_closing name at_line_start (s ++ rest) ident begins, begins) (ap (λ f. Some f) is)

heredoc_lit : (name : List ℕ) (at_line_start : Bool) (us : List (List ℕ)) (s rest : List ℕ) → s ≡ concat us → s ≢ [] → AreUnitsOf (heredoc_unit name) at_line_start us rest
    → heredoc_unit name (is_line_start_after at_line_start s) rest ≡ 0 → heredoc_token name at_line_start (s ++ rest) ≡ Some (HereLit, length s)
heredoc_lit name at_line_start [] s rest e filled are ends = absurd (filled e)
heredoc_lit name at_line_start (v ∷ vs) s rest e filled are ends =
    let t : List ℕ = s ++ rest in
    let more : List ℕ = concat vs ++ rest in
    let split : t ≡ v ++ more = ap (λ (x : List ℕ). x ++ rest) e ∙ append_assoc v (concat vs) rest in
    let unit : 0 < heredoc_unit name at_line_start t = rw (split, are.1) are.0 in
    let begins = here_unit_begins name at_line_start t unit in
    let none : run_length (heredoc_unit name) (is_line_start_after at_line_start s) rest ≡ 0 = run_length-none (heredoc_unit name) (is_line_start_after at_line_start s) rest ends in
    let count : run_length (heredoc_unit name) at_line_start t ≡ length s = IsRun-adds (heredoc_unit name) at_line_start s rest (v ∷ vs, e, are) ∙ omega (arith, none) in
    let size : length s ≡ length v + length (concat vs) = ap length e ∙ length-append v (concat vs) in
    let some : (run_length (heredoc_unit name) at_line_start t == 0) ≡ false = ne_eqb (run_length (heredoc_unit name) at_line_start t) 0 (λ z. absurd (omega (arith, are.0))) in
    rw (begins.0, begins.1, some) (ap (λ n. Some (HereLit, n)) count)

heredoc_exact : (name : List ℕ) (at_line_start : Bool) (kind : Kind) (s rest : List ℕ) → IsIdentifier name → IsLexeme (Heredoc name at_line_start) kind s rest → Ends (Heredoc name at_line_start) kind s rest
    → heredoc_token name at_line_start (s ++ rest) ≡ Some (kind, length s)
heredoc_exact name at_line_start HereClose s rest ident (st, close) ends =
    let found = close_found name s rest ident close in
    let closing : (at_line_start && is_closing_line name (s ++ rest)) ≡ true = both_true st found.0 in
    rw closing (ap (λ n. Some (HereClose, n)) found.1)
heredoc_exact name at_line_start HereLit s rest ident (st, (filled, (us, e, are))) ends = heredoc_lit name at_line_start us s rest e filled are ends
heredoc_exact name at_line_start InterpOpen s rest ident (st, e) ends = heredoc_opening name at_line_start InterpOpen s rest ident (interp_is s rest e ends)
heredoc_exact name at_line_start DirectiveOpen s rest ident (st, e) ends = heredoc_opening name at_line_start DirectiveOpen s rest ident (directive_is s rest e ends)
heredoc_exact name at_line_start kind s rest ident (st, e) ends = absurd (false≢true st)

-- ---- in each mode

pub exact : (mode : Mode) (kind : Kind) (s rest : List ℕ) → HasMarker mode → IsLexeme mode kind s rest → Ends mode kind s rest → token mode (s ++ rest) ≡ Some (kind, length s)
exact Expression kind s rest m h ends = ordinary_exact Expression kind s rest refl h.0 h.1 ends
exact Sequence kind s rest m h ends = ordinary_exact Sequence kind s rest refl h.0 h.1 ends
exact Braces kind s rest m h ends = ordinary_exact Braces kind s rest refl h.0 h.1 ends
exact Quoted kind s rest m h ends = quoted_exact kind s rest h.0 h.1 ends
exact (Heredoc name at_line_start) kind s rest m h ends = heredoc_exact name at_line_start kind s rest m h ends

-- what is found is the longest lexeme
pub exact_longest : (mode : Mode) (kind : Kind) (s rest : List ℕ) → HasMarker mode → IsUtf8 (s ++ rest) → token mode (s ++ rest) ≡ Some (kind, length s) → IsLongest mode kind s rest
exact_longest mode kind s rest m u is =
    let f : IsFound mode (s ++ rest) kind (length s) = subst (Sound mode (s ++ rest)) is (sound mode (s ++ rest) m u) in
    let same = split_same f.spelling f.rest s rest f.len (sym f.text_is) in
    subst (λ (x : List ℕ). IsLongest mode kind x rest) same.0
    (subst (IsLongest mode kind f.spelling) same.1 (found_longest mode (s ++ rest) kind (length s) m is f))
