-- A text has no more tokens than bytes: each token has a byte, but perhaps the closing line of a heredoc, whose opening has two.
use Rattle.std.proofs.Common.{◌≡◌, ℕ, ◌+◌, ◌≤◌, ◌<◌, Bool, true, false, Option, Some, None, List, [], ◌∷◌, ◌++◌, length, drop, if◌then◌else◌, refl, sym, ap, subst, ◌∙◌, arith, inl, inr, length-append}
use Rattle.std.proofs.lemmas.Bool.{and_parts, false≢true}
use Rattle.std.proofs.lemmas.Str.{chars-nil}
use Rattle.std.specs.Str.{chars}
use Rattle.hcl_token.specs.declared.kind.Kind.{Kind}
use Rattle.hcl_token.specs.declared.kind.Kind.TheVariants.{Mark, LineEnd, LineComment, InlineComment, Identifier, Number, DotIndex, Slash, OpenBrace, CloseBrace, QuoteOpen, QuoteClose, QuoteLit, HereOpen, HereClose, HereLit, InterpOpen, DirectiveOpen, SeqClose}
use Rattle.hcl_token.specs.Tokens.{Pair, whole_text}
use Rattle.hcl_scan.specs.Modes.{Mode, mode_of, clear_line_start, after_literal, is_in_sequence, is_braces, is_at_line_start, modes_after}
use Rattle.hcl_scan.specs.Modes.Mode.{Braces, Heredoc}
use Rattle.hcl_scan.specs.Lexeme.{is_heredoc, is_decimal, is_identifier, fixed_spelling, IsLexeme}
use Rattle.hcl_scan.specs.Tokenization.{TokenizesFrom, IsTokenization, byte_order_mark, mark_prefix, MAX_TEXT}
use Rattle.hcl_scan.specs.Characters.{is_prefix_of}

-- ---- heredocs that are open

abbrev heredocs : List Mode → ℕ
heredocs [] = 0
heredocs (Heredoc name fresh ∷ modes) = 1 + heredocs modes
heredocs (mode ∷ modes) = heredocs modes

fewer : (modes : List Mode) → heredocs (drop 1 modes) ≤ heredocs modes
fewer [] = omega arith
fewer (Heredoc name fresh ∷ modes) = omega arith
fewer (mode ∷ modes) = omega arith

one_fewer : (modes : List Mode) → is_heredoc (mode_of modes) ≡ true → 1 + heredocs (drop 1 modes) ≤ heredocs modes
one_fewer [] h = absurd (false≢true h)
one_fewer (Heredoc name fresh ∷ modes) h = omega arith
one_fewer (mode ∷ modes) h = absurd (false≢true h)

within : (modes : List Mode) → heredocs (clear_line_start modes) ≤ heredocs modes
within [] = omega arith
within (Heredoc name fresh ∷ modes) = omega arith
within (mode ∷ modes) = omega arith

on : (piece : List ℕ) (mode : Mode) (modes : List Mode) → heredocs (after_literal piece mode ∷ modes) ≤ heredocs (mode ∷ modes)
on piece (Heredoc name fresh) modes = omega arith
on piece mode modes = omega arith

braces : (test : Bool) (modes : List Mode) → heredocs (if test then Braces ∷ modes else modes) ≤ heredocs modes
braces true modes = omega arith
braces false modes = omega arith

unbraced : (test : Bool) (modes : List Mode) → heredocs (if test then drop 1 modes else modes) ≤ heredocs modes
unbraced true modes = fewer modes
unbraced false modes = omega arith

-- ---- bytes

abbrev is_filled : Option (List ℕ) → Bool
is_filled None = true
is_filled (Some []) = false
is_filled (Some (b ∷ t)) = true

filled : (kind : Kind) → is_filled (fixed_spelling kind) ≡ true
filled Mark = refl
filled kind = refl

fixed_some : (only : Option (List ℕ)) (s : List ℕ) → is_filled only ≡ true → only ≡ Some s → 0 < length s
fixed_some None s h e = absurd (cc)
fixed_some (Some []) s h e = absurd (cc)
fixed_some (Some (b ∷ t)) s h e = let same : s ≡ b ∷ t = cc in omega (arith, ap length same)

decimal_some : (whole : List ℕ) → is_decimal whole ≡ true → 0 < length whole
decimal_some [] h = absurd (cc)
decimal_some (d ∷ ds) h = omega arith

not_empty : (s : List ℕ) → (s ≡ [] → ⊥) → 0 < length s
not_empty [] h = absurd (h refl)
not_empty (b ∷ t) h = omega arith

identifier_some : (s : List ℕ) → is_identifier (chars s) ≡ true → 0 < length s
identifier_some [] h = absurd (false≢true (sym (ap is_identifier chars-nil) ∙ h))
identifier_some (b ∷ t) h = omega arith

-- a token, with the heredocs open after it, against its bytes, with those open before it
a_byte : (kind : Kind) (s rest : List ℕ) (modes : List Mode) → IsLexeme (mode_of modes) kind s rest → 1 + heredocs (modes_after kind s modes) ≤ length s + heredocs modes
a_byte Mark s rest modes (st, h) = absurd (false≢true st)
a_byte LineEnd s rest modes (st, inl e) = omega (arith, ap length e)
a_byte LineEnd s rest modes (st, inr e) = omega (arith, ap length e)
a_byte LineComment s rest modes (st, inl (body, e, run)) = omega (arith, ap length e)
a_byte LineComment s rest modes (st, inr (body, e, run)) = omega (arith, ap length e)
a_byte InlineComment s rest modes (st, (body, e, run)) = omega (arith, ap length e)
a_byte Identifier s rest modes (st, (u, h)) = omega (arith, identifier_some s h)
a_byte Number s rest modes (st, (whole, fraction, exponent, e, decimal, f, x)) = omega (arith, ap length e, length-append whole (fraction ++ exponent), decimal_some whole decimal)
a_byte DotIndex s rest modes (st, (digits, e, decimal)) = omega (arith, ap length e)
a_byte Slash s rest modes (st, (e, h)) = omega (arith, fixed_some (fixed_spelling Slash) s refl e)
a_byte HereOpen s rest modes (st, (dash, name, end, e, is, ident, line)) = omega (arith, ap length e)
a_byte SeqClose s rest modes (st, inl e) = omega (arith, ap length e, fewer modes)
a_byte SeqClose s rest modes (st, inr e) = omega (arith, ap length e, fewer modes)
a_byte InterpOpen s rest modes (st, inl e) = omega (arith, ap length e, within modes)
a_byte InterpOpen s rest modes (st, inr e) = omega (arith, ap length e, within modes)
a_byte DirectiveOpen s rest modes (st, inl e) = omega (arith, ap length e, within modes)
a_byte DirectiveOpen s rest modes (st, inr e) = omega (arith, ap length e, within modes)
a_byte QuoteOpen s rest modes (st, e) = omega (arith, fixed_some (fixed_spelling QuoteOpen) s refl e)
a_byte QuoteClose s rest modes (st, e) = omega (arith, fixed_some (fixed_spelling QuoteClose) s refl e, fewer modes)
a_byte QuoteLit s rest modes (st, (some, run)) = omega (arith, not_empty s some)
a_byte HereClose s rest modes (st, h) = omega (arith, one_fewer modes (and_parts (is_heredoc (mode_of modes)) (is_at_line_start (mode_of modes)) st).0)
a_byte HereLit s rest [] (st, (some, run)) = omega (arith, not_empty s some)
a_byte HereLit s rest (mode ∷ modes) (st, (some, run)) = omega (arith, not_empty s some, on s mode modes)
a_byte OpenBrace s rest modes (st, e) = omega (arith, fixed_some (fixed_spelling OpenBrace) s refl e, braces (is_in_sequence (mode_of modes)) modes)
a_byte CloseBrace s rest modes (st, e) = omega (arith, fixed_some (fixed_spelling CloseBrace) s refl e, unbraced (is_braces (mode_of modes)) modes)
a_byte kind s rest modes (st, e) = omega (arith, fixed_some (fixed_spelling kind) s (filled kind) e)

-- ---- tokens

few_from : (modes : List Mode) (ps : List Pair) (rest : List ℕ) (left : List Mode) → TokenizesFrom modes ps rest left → length ps ≤ length (whole_text ps rest) + heredocs modes
few_from modes [] rest left c = omega arith
few_from modes (p ∷ ps) rest left c =
    let own = a_byte p.kind p.spelling (whole_text ps rest) modes c.1.0 in
    let more = few_from (modes_after p.kind p.spelling modes) ps rest left c.2 in
    omega (arith, length-append p.gap (p.spelling ++ whole_text ps rest), length-append p.spelling (whole_text ps rest), own, more)

abbrev mark_pair : Pair
mark_pair = record { gap = []; kind = Mark; spelling = byte_order_mark }

first_few : (text : List ℕ) (body : List Pair) (last : List ℕ) → length body ≤ length (whole_text body last) → length (mark_prefix text ++ body) ≤ length (whole_text (mark_prefix text ++ body) last)
first_few text body last h = elim (is_prefix_of byte_order_mark text) as (λ b. length ((if b then mark_pair ∷ [] else []) ++ body) ≤ length (whole_text ((if b then mark_pair ∷ [] else []) ++ body) last)) [
  | true ↦ omega (arith, h, length-append byte_order_mark (whole_text body last))
  | false ↦ h
]

-- a text has no more tokens than bytes
pub few_tokens : (text : List ℕ) (pairs : List Pair) (last : List ℕ) → IsTokenization text pairs last → length pairs ≤ MAX_TEXT
few_tokens text pairs last c =
    let body = few_from [] c.tokenizes.body last [] c.tokenizes.tokenizes in
    let all = first_few text c.tokenizes.body last (omega (arith, body)) in
    let same : length pairs ≤ length (whole_text pairs last) = subst (λ (ps : List Pair). length ps ≤ length (whole_text ps last)) (sym c.tokenizes.prefix) all in
    omega (arith, same, ap length c.tokenizes.text_is, c.short)
