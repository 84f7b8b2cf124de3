-- Outside of literal text only a line end begins with a line end.
use Rattle.std.proofs.Common.{◌≡◌, ℕ, ◌+◌, ◌<◌, Bool, true, false, not, ◌||◌, ◌==◌, List, [], ◌∷◌, ◌++◌, length, slice_index, Option, Some, None, encode_utf8, encode_utf8_all, refl, sym, ap, subst, ◌∙◌, inl, inr, arith, length-append}
use Rattle.std.proofs.lemmas.Bool.{and_parts, both_ways, false≢true, not-true}
use Rattle.std.proofs.lemmas.Bool.Decides.{nat_tests}
use Rattle.std.proofs.lemmas.Str.{encodes-chars, length-encode, len_utf8_bounds}
use Rattle.std.specs.Char.{len_utf8, is_ascii_digit}
use Rattle.std.specs.List.{list_all}
use Rattle.std.specs.Str.{chars}
use Rattle.hcl_token.specs.declared.kind.Kind.{Kind}
use Rattle.hcl_token.specs.declared.kind.Kind.TheVariants.{Mark, LineEnd, LineComment, InlineComment, Identifier, Number, DotIndex, Slash, HereOpen, SeqClose, QuoteClose, QuoteLit, InterpOpen, DirectiveOpen, HereClose, HereLit}
use Rattle.hcl_scan.proofs.HeredocLemmas.{starts_word}
use Rattle.hcl_scan.specs.Inner.LexemeStarts.{is_word_start}
use Rattle.hcl_scan.specs.Characters.{is_id_start, is_id_continue}
use Rattle.hcl_scan.specs.Closing.{is_at_line_end_or_eof}
use Rattle.hcl_scan.specs.Modes.{Mode}
use Rattle.hcl_scan.specs.Lexeme.{is_identifier, IsIdentifier, is_decimal, fixed_spelling, IsLexeme}
use Rattle.hcl_scan.specs.Follows.{has_no_gap_before}
use Rattle.hcl_token.specs.Kinds.{is_line_end}

-- LF or CR
abbrev is_line_byte : ℕ → Bool
is_line_byte b = b == 10 || b == 13

first_byte : (s : List ℕ) → 0 < length s → is_line_byte (slice_index s 0) ≡ false → is_at_line_end_or_eof s ≡ false
first_byte [] some h = absurd (omega arith)
first_byte (b ∷ t) some h = grind (arith, nat_tests)

-- ---- identifiers and numbers

word_apart : (b : ℕ) → is_word_start b ≡ true → is_line_byte b ≡ false
word_apart b h = grind (arith, nat_tests)

word_byte : (c : ℕ) (more : List ℕ) → is_id_start c ≡ true → is_line_byte (slice_index (encode_utf8 c ++ more) 0) ≡ false
word_byte c more h = word_apart (slice_index (encode_utf8 c ++ more) 0) (starts_word c more h)

word_line : (cs : List ℕ) → is_identifier cs ≡ true → is_at_line_end_or_eof (encode_utf8_all cs) ≡ false
word_line [] h = absurd (cc)
word_line (c ∷ cs) h =
    let size : length (encode_utf8_all (c ∷ cs)) ≡ len_utf8 c + length (encode_utf8_all cs) =
    length-append (encode_utf8 c) (encode_utf8_all cs) ∙ ap (λ n. n + length (encode_utf8_all cs)) (length-encode c) in
    first_byte (encode_utf8_all (c ∷ cs)) (omega (arith, (len_utf8_bounds c).0)) (word_byte c (encode_utf8_all cs) (and_parts (is_id_start c) (list_all is_id_continue cs) h).0)

identifier_line : (s : List ℕ) → IsIdentifier s → is_at_line_end_or_eof s ≡ false
identifier_line s (u, h) = subst (λ (t : List ℕ). is_at_line_end_or_eof t ≡ false) (encodes-chars s u) (word_line (chars s) h)

digit_byte : (d : ℕ) → is_ascii_digit d ≡ true → is_line_byte d ≡ false
digit_byte d h = grind (arith, nat_tests)

number_line : (whole more : List ℕ) → is_decimal whole ≡ true → is_at_line_end_or_eof (whole ++ more) ≡ false
number_line [] more h = absurd (cc)
number_line (d ∷ ds) more h = first_byte (d ∷ (ds ++ more)) (omega arith) (digit_byte d (and_parts (is_ascii_digit d) (list_all is_ascii_digit ds) h).0)

-- ---- kinds of one spelling

abbrev begins_none : Option (List ℕ) → Bool
begins_none None = true
begins_none (Some s) = not (is_at_line_end_or_eof s)

all_none : (kind : Kind) → begins_none (fixed_spelling kind) ≡ true
all_none Mark = refl
all_none kind = refl

fixed_line : (only : Option (List ℕ)) (s : List ℕ) → begins_none only ≡ true → only ≡ Some s → is_at_line_end_or_eof s ≡ false
fixed_line None s h e = absurd (cc)
fixed_line (Some t) s h e = let same : s ≡ t = cc in ap is_at_line_end_or_eof same ∙ not-true (is_at_line_end_or_eof t) h

-- ---- all kinds

no_line : (s : List ℕ) (kind : Kind) → is_at_line_end_or_eof s ≡ false → is_at_line_end_or_eof s ≡ true → is_line_end kind ≡ true
no_line s kind h e = absurd (both_ways (is_at_line_end_or_eof s) h e)

pub line_token : (mode : Mode) (kind : Kind) (s rest : List ℕ) → IsLexeme mode kind s rest → has_no_gap_before kind ≡ false → is_at_line_end_or_eof s ≡ true → is_line_end kind ≡ true
line_token mode LineEnd s rest lexeme gap e = refl
line_token mode LineComment s rest (st, inl (body, is, run)) gap e = no_line s LineComment (ap is_at_line_end_or_eof is) e
line_token mode LineComment s rest (st, inr (body, is, run)) gap e = no_line s LineComment (ap is_at_line_end_or_eof is) e
line_token mode InlineComment s rest (st, (body, is, run)) gap e = no_line s InlineComment (ap is_at_line_end_or_eof is) e
line_token mode Identifier s rest (st, ident) gap e = no_line s Identifier (identifier_line s ident) e
line_token mode Number s rest (st, (whole, fraction, exponent, is, decimal, f, x)) gap e = no_line s Number (ap is_at_line_end_or_eof is ∙ number_line whole (fraction ++ exponent) decimal) e
line_token mode DotIndex s rest (st, (digits, is, decimal)) gap e = no_line s DotIndex (ap is_at_line_end_or_eof is) e
line_token mode Slash s rest (st, (is, free)) gap e = no_line s Slash (fixed_line (fixed_spelling Slash) s refl is) e
line_token mode HereOpen s rest (st, (dash, name, end, is, d, ident, line)) gap e = no_line s HereOpen (ap is_at_line_end_or_eof is) e
line_token mode SeqClose s rest (st, inl is) gap e = no_line s SeqClose (ap is_at_line_end_or_eof is) e
line_token mode SeqClose s rest (st, inr is) gap e = no_line s SeqClose (ap is_at_line_end_or_eof is) e
line_token mode Mark s rest lexeme gap e = absurd (false≢true (sym gap))
line_token mode QuoteClose s rest lexeme gap e = absurd (false≢true (sym gap))
line_token mode QuoteLit s rest lexeme gap e = absurd (false≢true (sym gap))
line_token mode InterpOpen s rest lexeme gap e = absurd (false≢true (sym gap))
line_token mode DirectiveOpen s rest lexeme gap e = absurd (false≢true (sym gap))
line_token mode HereClose s rest lexeme gap e = absurd (false≢true (sym gap))
line_token mode HereLit s rest lexeme gap e = absurd (false≢true (sym gap))
line_token mode kind s rest (st, is) gap e = no_line s kind (fixed_line (fixed_spelling kind) s (all_none kind) is) e
