-- Outside of literal text, a lexeme is what is found, if what follows does not go on with it.
use Rattle.std.proofs.Common.{◌≡◌, ℕ, suc, Bool, true, false, not, nat_lt, ◌||◌, ◌==◌, List, [], ◌∷◌, ◌++◌, length, slice_index, Some, None, refl, sym, ap, subst, ◌∙◌, inl, inr, arith, append_assoc, length-append}
use Rattle.std.proofs.lemmas.Bool.{both_ways, or_parts, lt-ltb, and_parts, not-true, false≢true}
use Rattle.std.specs.Char.{is_ascii_digit}
use Rattle.hcl_token.specs.declared.kind.Kind.{Kind}
use Rattle.hcl_token.specs.declared.kind.Kind.TheVariants.{Mark, LineEnd, LineComment, InlineComment, Identifier, Number, DotIndex, Slash, Bang, Less, Greater, Colon, Equal, CloseBrace, Dot, HereOpen, SeqClose, QuoteClose, InterpOpen, DirectiveOpen, QuoteLit, HereClose, HereLit}
use Rattle.hcl_scan.specs.Modes.{Mode, is_literal, can_close_sequence, is_at_line_start}
use Rattle.hcl_scan.specs.Modes.Mode.{Quoted}
use Rattle.hcl_scan.specs.Runs.{is_line_start_after, IsRun}
use Rattle.hcl_scan.specs.Inner.RunLength.{run_length}
use Rattle.hcl_scan.specs.Lexeme.{is_heredoc, is_allowed_in, is_decimal, comment_unit, inline_unit, Spells}
use Rattle.hcl_scan.specs.Inner.HeredocToken.{here_open}
use Rattle.hcl_scan.specs.Inner.NextToken.{LexedToken, is_word_start, number_length, heredoc_or_less, expression_token}
use Rattle.hcl_scan.proofs.RunLemmas.{run_length-none, IsRun-adds}
use Rattle.hcl_scan.proofs.UnitLemmas.{byte_unit_any}
use Rattle.hcl_scan.proofs.HeredocLemmas.{identifier_some}
use Rattle.hcl_scan.proofs.HeredocBeats.{identifier_exact, heredoc_open_exact}
use Rattle.hcl_scan.proofs.BeatsNumbers.{head_digit, head_of}
use Rattle.hcl_scan.proofs.BeatsPlain.{spelt, digit_no_word, not_quoted, not_heredoc}
use Rattle.hcl_scan.proofs.Ends.{IsNot, EndsNumber, Ends}
use Rattle.hcl_scan.proofs.ExactNumbers.{digits_exact, number_exact}

abbrev Exact : Bool → Kind → List ℕ → List ℕ → Type 0
Exact c kind s rest = expression_token c (s ++ rest) ≡ Some (kind, length s)

written : (c : Bool) (kind : Kind) (s rest x : List ℕ) → s ≡ x → Exact c kind x rest → Exact c kind s rest
written c kind s rest x e h = subst (λ (y : List ℕ). Exact c kind y rest) (sym e) h

-- the spelling of a kind that has only one
only : (c : Bool) (kind : Kind) (s rest x : List ℕ) → Some x ≡ Some s → Exact c kind x rest → Exact c kind s rest
only c kind s rest x e h = written c kind s rest x (spelt x s e) h

found_of : (kind : Kind) (n m : ℕ) → n ≡ m → ◌≡◌ {A = LexedToken} (Some (kind, n)) (Some (kind, m))
found_of kind n m e = ap (λ k. Some (kind, k)) e

module _ (c : Bool) where
  identifier_is : (s rest : List ℕ) (h : Spells Quoted Identifier s rest) → Ends Quoted Identifier s rest → Exact c Identifier s rest
  identifier_is s rest h ends =
      let word = identifier_some s h in
      let first : is_word_start (slice_index (s ++ rest) 0) ≡ true = ap is_word_start (head_of s rest word.0) ∙ word.1 in
      rw first (identifier_exact s rest h ends)

  number_is : (s rest : List ℕ) → Spells Quoted Number s rest → EndsNumber s rest → Exact c Number s rest
  number_is s rest (whole, fraction, exponent, e, decimal, f, x) ends =
      let spelling : List ℕ = whole ++ (fraction ++ exponent) in
      let t : List ℕ = spelling ++ rest in
      let digit : is_ascii_digit (slice_index t 0) ≡ true =
      ap (λ (y : List ℕ). is_ascii_digit (slice_index y 0)) (append_assoc whole (fraction ++ exponent) rest) ∙ head_digit whole ((fraction ++ exponent) ++ rest) decimal in
      let size : number_length t ≡ length spelling = number_exact whole fraction exponent rest decimal f x (subst (λ (y : List ℕ). EndsNumber y rest) e ends) in
      written c Number s rest spelling e (rw (digit_no_word (slice_index t 0) digit, digit) (found_of Number (number_length t) (length spelling) size))

  index_is : (digits rest : List ℕ) → is_decimal digits ≡ true → is_ascii_digit (slice_index rest 0) ≡ false → Exact c DotIndex (46 ∷ digits) rest
  index_is digits rest decimal none = rw (head_digit digits rest decimal) (found_of DotIndex _ (suc (length digits)) (omega (arith, digits_exact digits rest decimal none)))

  comment_size : (body rest : List ℕ) → IsRun comment_unit false body rest → comment_unit false rest ≡ 0 → run_length comment_unit false (body ++ rest) ≡ length body
  comment_size body rest run ends =
      let none : comment_unit (is_line_start_after false body) rest ≡ 0 = byte_unit_any _ (is_line_start_after false body) rest ∙ ends in
      IsRun-adds comment_unit false body rest run ∙ omega (arith, run_length-none comment_unit (is_line_start_after false body) rest none)

  inline_is : (body rest : List ℕ) → IsRun inline_unit false body (42 ∷ 47 ∷ rest) → Exact c InlineComment (47 ∷ 42 ∷ (body ++ 42 ∷ 47 ∷ [])) rest
  inline_is body rest run =
      let tail : List ℕ = 42 ∷ 47 ∷ rest in
      let assoc : (body ++ 42 ∷ 47 ∷ []) ++ rest ≡ body ++ tail = append_assoc body (42 ∷ 47 ∷ []) rest in
      let none : run_length inline_unit (is_line_start_after false body) tail ≡ 0 = run_length-none inline_unit (is_line_start_after false body) tail refl in
      let count : run_length inline_unit false (body ++ tail) ≡ length body = IsRun-adds inline_unit false body tail run ∙ omega (arith, none) in
      let within : nat_lt (length body) (length (body ++ tail)) ≡ true = lt-ltb _ _ (omega (arith, length-append body tail)) in
      rw (assoc, count, within) (found_of InlineComment _ _ (omega (arith, length-append body (42 ∷ 47 ∷ []))))

  slash_is : (rest : List ℕ) → (slice_index rest 0 == 42 || slice_index rest 0 == 47) ≡ false → Exact c Slash (47 ∷ []) rest
  slash_is rest h =
      let both = or_parts (slice_index rest 0 == 42) (slice_index rest 0 == 47) h in
      rw (both.1, both.0) refl

  less_is : (rest : List ℕ) → IsNot 61 rest → here_open (60 ∷ rest) ≡ None → Exact c Less (60 ∷ []) rest
  less_is rest no_equal none =
      elim (slice_index rest 0 == 60) as (λ x. (slice_index rest 0 == 60) ≡ x → Exact c Less (60 ∷ []) rest) [
        | true ↦ λ h.
            let opens : expression_token c (60 ∷ rest) ≡ heredoc_or_less (here_open (60 ∷ rest)) = rw h refl in
            opens ∙ ap heredoc_or_less none
        | false ↦ λ h. rw (h, no_equal) refl
      ] refl

  dot_is : (rest : List ℕ) → Ends Quoted Dot (46 ∷ []) rest → Exact c Dot (46 ∷ []) rest
  dot_is rest ends = rw (ends.0, ends.1) refl

  here_is : (s rest more : List ℕ) → s ≡ 60 ∷ 60 ∷ more → here_open (s ++ rest) ≡ Some (HereOpen, length s) → Exact c HereOpen s rest
  here_is s rest more e found =
      let opens : expression_token c (s ++ rest) ≡ heredoc_or_less (here_open (s ++ rest)) =
      subst (λ (x : List ℕ). expression_token c (x ++ rest) ≡ heredoc_or_less (here_open (x ++ rest))) (sym e) refl in
      opens ∙ ap heredoc_or_less found

pub ordinary_exact : (mode : Mode) (kind : Kind) (s rest : List ℕ) → is_literal mode ≡ false → is_allowed_in mode kind ≡ true → Spells mode kind s rest → Ends mode kind s rest
    → Exact (can_close_sequence mode) kind s rest
ordinary_exact mode LineEnd s rest plain st (inl e) ends = written (can_close_sequence mode) LineEnd s rest _ e refl
ordinary_exact mode LineEnd s rest plain st (inr e) ends = written (can_close_sequence mode) LineEnd s rest _ e refl
ordinary_exact mode LineComment s rest plain st (inl (body, e, run)) ends =
    written (can_close_sequence mode) LineComment s rest (35 ∷ body) e (found_of LineComment _ (suc (length body)) (omega (arith, comment_size (can_close_sequence mode) body rest run ends)))
ordinary_exact mode LineComment s rest plain st (inr (body, e, run)) ends =
    written (can_close_sequence mode) LineComment s rest (47 ∷ 47 ∷ body) e (found_of LineComment _ (suc (suc (length body))) (omega (arith, comment_size (can_close_sequence mode) body rest run ends)))
ordinary_exact mode InlineComment s rest plain st (body, e, run) ends = written (can_close_sequence mode) InlineComment s rest _ e (inline_is (can_close_sequence mode) body rest run)
ordinary_exact mode Identifier s rest plain st h ends = identifier_is (can_close_sequence mode) s rest h ends
ordinary_exact mode Number s rest plain st h ends = number_is (can_close_sequence mode) s rest h ends
ordinary_exact mode DotIndex s rest plain st (digits, e, decimal) ends = written (can_close_sequence mode) DotIndex s rest _ e (index_is (can_close_sequence mode) digits rest decimal ends)
ordinary_exact mode Slash s rest plain st (e, h) ends = only (can_close_sequence mode) Slash s rest _ e (slash_is (can_close_sequence mode) rest h)
ordinary_exact mode Bang s rest plain st e ends = only (can_close_sequence mode) Bang s rest _ e (rw ends refl)
ordinary_exact mode Greater s rest plain st e ends = only (can_close_sequence mode) Greater s rest _ e (rw ends refl)
ordinary_exact mode Colon s rest plain st e ends = only (can_close_sequence mode) Colon s rest _ e (rw ends refl)
ordinary_exact mode Less s rest plain st e ends = only (can_close_sequence mode) Less s rest _ e (less_is (can_close_sequence mode) rest ends.0 ends.1)
ordinary_exact mode Equal s rest plain st e ends = only (can_close_sequence mode) Equal s rest _ e (rw (ends.0, ends.1) refl)
ordinary_exact mode Dot s rest plain st e ends = only (can_close_sequence mode) Dot s rest _ e (dot_is (can_close_sequence mode) rest ends)
ordinary_exact mode CloseBrace s rest plain st e ends = only (can_close_sequence mode) CloseBrace s rest _ e
    (rw (not-true (can_close_sequence mode) (and_parts (not (can_close_sequence mode)) (not (is_literal mode)) st).0) refl)
ordinary_exact mode HereOpen s rest plain st (dash, name, end, e, either, ident, line) ends =
    here_is (can_close_sequence mode) s rest (dash ++ (name ++ end)) e (heredoc_open_exact mode s rest (dash, name, end, e, either, ident, line))
ordinary_exact mode SeqClose s rest plain st (inl e) ends = written (can_close_sequence mode) SeqClose s rest _ e (rw st refl)
ordinary_exact mode SeqClose s rest plain st (inr e) ends = written (can_close_sequence mode) SeqClose s rest _ e (rw st refl)
ordinary_exact mode Mark s rest plain st e ends = absurd (false≢true st)
ordinary_exact mode InterpOpen s rest plain st e ends = absurd (both_ways _ plain st)
ordinary_exact mode DirectiveOpen s rest plain st e ends = absurd (both_ways _ plain st)
ordinary_exact mode QuoteClose s rest plain st e ends = absurd (not_quoted mode plain st)
ordinary_exact mode QuoteLit s rest plain st e ends = absurd (not_quoted mode plain st)
ordinary_exact mode HereLit s rest plain st e ends = absurd (not_heredoc mode plain st)
ordinary_exact mode HereClose s rest plain st e ends = absurd (not_heredoc mode plain (and_parts (is_heredoc mode) (is_at_line_start mode) st).0)
ordinary_exact mode kind s rest plain st e ends = only (can_close_sequence mode) kind s rest _ e refl
