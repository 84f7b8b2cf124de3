-- What follows a token and does not go on with it.
use Rattle.std.proofs.Common.{◌≡◌, ℕ, true, false, ◌&&◌, ◌==◌, List, ◌∷◌, length, slice_index, None}
use Rattle.std.specs.Char.{is_ascii_digit}
use Rattle.std.specs.Str.{chars}
use Rattle.hcl_token.specs.declared.kind.Kind.{Kind}
use Rattle.hcl_token.specs.declared.kind.Kind.TheVariants.{LineComment, Identifier, Number, DotIndex, Less, Greater, Bang, Equal, Colon, Dot, InterpOpen, DirectiveOpen, QuoteLit, HereLit}
use Rattle.hcl_token.specs.Joins.{is_digits}
use Rattle.hcl_scan.specs.Runs.{is_line_start_after}
use Rattle.hcl_scan.specs.Modes.{Mode, marker, is_at_line_start}
use Rattle.hcl_scan.specs.Closing.{heredoc_unit}
use Rattle.hcl_scan.specs.Lexeme.{comment_unit, quote_unit}
use Rattle.hcl_scan.specs.Inner.HeredocToken.{here_open}
use Rattle.hcl_scan.specs.Inner.NextToken.{id_continue_length, fraction_length, is_exponent_letter}

-- the byte at the start of a text is not this one
abbrev pub IsNot : ℕ → List ℕ → Type 0
IsNot b t = (slice_index t 0 == b) ≡ false

-- after a number: no digit, no letter of an exponent, and after digits alone no fraction
abbrev pub EndsNumber : List ℕ → List ℕ → Type 0
EndsNumber s rest =
    (is_ascii_digit (slice_index rest 0) ≡ false)
    × (is_exponent_letter (slice_index rest 0) ≡ false)
    × (is_digits s ≡ true → fraction_length rest ≡ 0)

abbrev pub Ends : Mode → Kind → List ℕ → List ℕ → Type 0
Ends mode LineComment s rest = comment_unit false rest ≡ 0
Ends mode Identifier s rest = id_continue_length (chars rest) ≡ 0
Ends mode Number s rest = EndsNumber s rest
Ends mode DotIndex s rest = is_ascii_digit (slice_index rest 0) ≡ false
Ends mode Less s rest = IsNot 61 rest × (here_open (60 ∷ rest) ≡ None)
Ends mode Greater s rest = IsNot 61 rest
Ends mode Bang s rest = IsNot 61 rest
Ends mode Equal s rest = IsNot 61 rest × IsNot 62 rest
Ends mode Colon s rest = IsNot 58 rest
Ends mode Dot s rest = (is_ascii_digit (slice_index rest 0) ≡ false) × ((slice_index rest 0 == 46 && slice_index rest 1 == 46) ≡ false)
Ends mode InterpOpen s rest = length s ≡ 2 → IsNot 126 rest
Ends mode DirectiveOpen s rest = length s ≡ 2 → IsNot 126 rest
Ends mode QuoteLit s rest = quote_unit false rest ≡ 0
Ends mode HereLit s rest = heredoc_unit (marker mode) (is_line_start_after (is_at_line_start mode) s) rest ≡ 0
Ends mode kind s rest = Unit {0}
