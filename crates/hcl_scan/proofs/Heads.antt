-- The byte that a token outside of literal text begins with, by its kind.
use Rattle.std.proofs.Common.{◌≡◌, ℕ, ◌<◌, Bool, true, false, ◌||◌, ◌==◌, List, [], ◌∷◌, ◌++◌, length, slice_index, Option, Some, None, refl, sym, ap, subst, ◌∙◌, inl, inr, arith}
use Rattle.std.proofs.lemmas.Bool.{and_parts, eqb-true, both_ways, false≢true, or_cases, eq-eqb}
use Rattle.std.specs.Char.{is_ascii_digit}
use Rattle.std.specs.List.{list_all}
use Rattle.hcl_token.specs.declared.kind.Kind.{Kind}
use Rattle.hcl_token.specs.declared.kind.Kind.TheVariants.{Mark, LineEnd, LineComment, InlineComment, Identifier, Number, DotIndex, Slash, HereOpen, SeqClose, InterpOpen, DirectiveOpen, QuoteLit, HereClose, HereLit}
use Rattle.hcl_scan.specs.Modes.{Mode, is_literal, is_at_line_start}
use Rattle.hcl_scan.specs.Modes.Mode.{Quoted, Heredoc}
use Rattle.hcl_scan.specs.Lexeme.{is_quoted, is_heredoc, is_allowed_in, is_decimal, fixed_spelling, Spells}
use Rattle.hcl_scan.specs.Inner.LexemeStarts.{is_word_start}
use Rattle.hcl_scan.proofs.HeredocLemmas.{identifier_some}

-- the first byte of the only spelling
abbrev head_of : Option (List ℕ) → List ℕ
head_of None = []
head_of (Some []) = []
head_of (Some (b ∷ t)) = b ∷ []

-- the bytes that tokens of the kind begin with, but identifiers and numbers
abbrev pub heads : Kind → List ℕ
heads LineEnd = 10 ∷ 13 ∷ []
heads LineComment = 35 ∷ 47 ∷ []
heads InlineComment = 47 ∷ []
heads DotIndex = 46 ∷ []
heads HereOpen = 60 ∷ []
heads SeqClose = 125 ∷ 126 ∷ []
heads InterpOpen = 36 ∷ []
heads DirectiveOpen = 37 ∷ []
heads kind = head_of (fixed_spelling kind)

abbrev pub is_one_of : ℕ → List ℕ → Bool
is_one_of b [] = false
is_one_of b (x ∷ xs) = b == x || is_one_of b xs

abbrev pub HeadIs : Kind → ℕ → Type 0
HeadIs Identifier b = is_word_start b ≡ true
HeadIs Number b = is_ascii_digit b ≡ true
HeadIs kind b = is_one_of b (heads kind) ≡ true

-- ---- each token begins so

abbrev is_filled : Option (List ℕ) → Bool
is_filled None = true
is_filled (Some []) = false
is_filled (Some (b ∷ t)) = true

filled : (kind : Kind) → is_filled (fixed_spelling kind) ≡ true
filled Mark = refl
filled kind = refl

abbrev Begins : Kind → List ℕ → Type 0
Begins kind s = (0 < length s) × HeadIs kind (slice_index s 0)

fixed_head : (only : Option (List ℕ)) (s : List ℕ) → is_filled only ≡ true → only ≡ Some s → (0 < length s) × (is_one_of (slice_index s 0) (head_of only) ≡ true)
fixed_head None s h e = absurd (cc)
fixed_head (Some []) s h e = absurd (cc)
fixed_head (Some (b ∷ t)) s h e =
    let same : s ≡ b ∷ t = cc in
    subst (λ (x : List ℕ). (0 < length x) × (is_one_of (slice_index x 0) (b ∷ []) ≡ true)) (sym same) (omega arith, rw (eq-eqb b b refl) refl)

digit_head : (whole more : List ℕ) → is_decimal whole ≡ true → (0 < length (whole ++ more)) × (is_ascii_digit (slice_index (whole ++ more) 0) ≡ true)
digit_head [] more h = absurd (cc)
digit_head (d ∷ ds) more h = (omega arith, (and_parts (is_ascii_digit d) (list_all is_ascii_digit ds) h).0)

quoted_literal : (m : Mode) → is_quoted m ≡ true → is_literal m ≡ true
quoted_literal Quoted h = refl
quoted_literal m h = absurd (false≢true h)

heredoc_literal : (m : Mode) → is_heredoc m ≡ true → is_literal m ≡ true
heredoc_literal (Heredoc name at_line_start) h = refl
heredoc_literal m h = absurd (false≢true h)

pub begins_so : (mode : Mode) (kind : Kind) (s rest : List ℕ) → is_literal mode ≡ false → is_allowed_in mode kind ≡ true → Spells mode kind s rest → Begins kind s
begins_so mode LineEnd s rest plain st (inl e) = subst (Begins LineEnd) (sym e) (omega arith, refl)
begins_so mode LineEnd s rest plain st (inr e) = subst (Begins LineEnd) (sym e) (omega arith, refl)
begins_so mode LineComment s rest plain st (inl (body, e, run)) = subst (Begins LineComment) (sym e) (omega arith, refl)
begins_so mode LineComment s rest plain st (inr (body, e, run)) = subst (Begins LineComment) (sym e) (omega arith, refl)
begins_so mode InlineComment s rest plain st (body, e, run) = subst (Begins InlineComment) (sym e) (omega arith, refl)
begins_so mode Identifier s rest plain st h = identifier_some s h
begins_so mode Number s rest plain st (whole, fraction, exponent, e, decimal, f, x) = subst (Begins Number) (sym e) (digit_head whole (fraction ++ exponent) decimal)
begins_so mode DotIndex s rest plain st (digits, e, decimal) = subst (Begins DotIndex) (sym e) (omega arith, refl)
begins_so mode Slash s rest plain st (e, h) = fixed_head (fixed_spelling Slash) s refl e
begins_so mode HereOpen s rest plain st (dash, name, end, e, is, ident, line) = subst (Begins HereOpen) (sym e) (omega arith, refl)
begins_so mode SeqClose s rest plain st (inl e) = subst (Begins SeqClose) (sym e) (omega arith, refl)
begins_so mode SeqClose s rest plain st (inr e) = subst (Begins SeqClose) (sym e) (omega arith, refl)
begins_so mode InterpOpen s rest plain st e = absurd (both_ways _ plain st)
begins_so mode DirectiveOpen s rest plain st e = absurd (both_ways _ plain st)
begins_so mode QuoteLit s rest plain st e = absurd (both_ways _ plain (quoted_literal mode st))
begins_so mode HereLit s rest plain st e = absurd (both_ways _ plain (heredoc_literal mode st))
begins_so mode HereClose s rest plain st e = absurd (both_ways _ plain (heredoc_literal mode (and_parts (is_heredoc mode) (is_at_line_start mode) st).0))
begins_so mode Mark s rest plain st e = absurd (false≢true st)
begins_so mode kind s rest plain st e = fixed_head (fixed_spelling kind) s (filled kind) e

-- ---- what holds of each such byte

abbrev pub Passes : (ℕ → Bool) → Kind → Type 0
Passes p Identifier = (b : ℕ) → is_word_start b ≡ true → p b ≡ true
Passes p Number = (b : ℕ) → is_ascii_digit b ≡ true → p b ≡ true
Passes p kind = list_all p (heads kind) ≡ true

pub one_passes : (p : ℕ → Bool) (b : ℕ) (xs : List ℕ) → is_one_of b xs ≡ true → list_all p xs ≡ true → p b ≡ true
one_passes p b [] h all = absurd (false≢true h)
one_passes p b (x ∷ xs) h all =
    let both = and_parts (p x) (list_all p xs) all in
    elim (or_cases (b == x) (is_one_of b xs) h) [
      | inl e ↦ ap p (eqb-true b x e) ∙ both.0
      | inr more ↦ one_passes p b xs more both.1
    ]

pub head_passes : (p : ℕ → Bool) (kind : Kind) (b : ℕ) → HeadIs kind b → Passes p kind → p b ≡ true
head_passes p Identifier b h each = each b h
head_passes p Number b h each = each b h
head_passes p Mark b h all = one_passes p b (heads Mark) h all
head_passes p kind b h all = one_passes p b (heads kind) h all
