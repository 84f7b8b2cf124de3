-- The lexemes: for each mode and kind the spellings, given what follows.
-- HCL native syntax specification, Lexical Elements and Templates.
use Rattle.std.specs.Prelude.{◌≡◌, ◌≢◌, ℕ, suc, ◌≤◌, Bool, true, false, not, ◌&&◌, ◌||◌, if◌then◌else◌, ◌==◌}
use Rattle.std.specs.Prelude.{List, [], ◌∷◌, ◌++◌, length, drop, slice_index, ◌⊎◌, IsTrue, IsUtf8, Option}
use Rattle.std.specs.Prelude.{Some, None, codes}
use Rattle.std.specs.Char.{is_ascii_digit, is_ascii_hexdigit}
use Rattle.std.specs.List.{list_all}
use Rattle.std.specs.Str.{chars}
use Rattle.hcl_token.specs.Bytes.{quote, star, slash, backslash, capital_e, capital_u, letter_e, letter_n}
use Rattle.hcl_token.specs.Bytes.{letter_r, letter_t, letter_u}
use Rattle.hcl_token.specs.declared.kind.Kind.{Kind}
use Rattle.hcl_token.specs.declared.kind.Kind.TheVariants.{Mark, LineEnd, LineComment, InlineComment}
use Rattle.hcl_token.specs.declared.kind.Kind.TheVariants.{Identifier, Number, DotIndex, Plus, Minus, Star}
use Rattle.hcl_token.specs.declared.kind.Kind.TheVariants.{Slash, Percent, And, Or, Bang, DoubleEqual}
use Rattle.hcl_token.specs.declared.kind.Kind.TheVariants.{NotEqual, Less, Greater, LessEqual, GreaterEqual}
use Rattle.hcl_token.specs.declared.kind.Kind.TheVariants.{Question, Colon, DoubleColon, Equal, FatArrow}
use Rattle.hcl_token.specs.declared.kind.Kind.TheVariants.{OpenBrace, CloseBrace, OpenBracket, CloseBracket}
use Rattle.hcl_token.specs.declared.kind.Kind.TheVariants.{OpenParen, CloseParen, Comma, Dot, Ellipsis}
use Rattle.hcl_token.specs.declared.kind.Kind.TheVariants.{QuoteOpen, HereOpen, SeqClose, QuoteClose}
use Rattle.hcl_token.specs.declared.kind.Kind.TheVariants.{InterpOpen, DirectiveOpen, QuoteLit, HereClose}
use Rattle.hcl_token.specs.declared.kind.Kind.TheVariants.{HereLit}
use Rattle.hcl_scan.specs.Runs.{UnitLength, IsRun, byte_unit}
use Rattle.hcl_scan.specs.Modes.{Mode, is_literal, can_close_sequence, is_at_line_start, marker}
use Rattle.hcl_scan.specs.Modes.Mode.{Quoted, Heredoc}
use Rattle.hcl_scan.specs.Closing.{IsClosingLine, heredoc_unit}
use Rattle.hcl_scan.specs.Characters.{is_at_line_end, is_id_start, is_id_continue, is_sigil, sigil_length}

abbrev pub is_quoted : Mode → Bool
is_quoted Quoted = true
is_quoted _ = false

abbrev pub is_heredoc : Mode → Bool
is_heredoc (Heredoc name at_line_start) = true
is_heredoc _ = false

-- whether the mode has tokens of the kind; none has the byte order mark, which is at the start of a
-- text alone
abbrev pub is_allowed_in : Mode → Kind → Bool
is_allowed_in mode Mark = false
is_allowed_in mode QuoteClose = is_quoted mode
is_allowed_in mode QuoteLit = is_quoted mode
-- a heredoc closes only at the start of a line
is_allowed_in mode HereClose = is_heredoc mode && is_at_line_start mode
is_allowed_in mode HereLit = is_heredoc mode
is_allowed_in mode InterpOpen = is_literal mode
is_allowed_in mode DirectiveOpen = is_literal mode
is_allowed_in mode SeqClose = can_close_sequence mode
is_allowed_in mode CloseBrace = not (can_close_sequence mode) && not (is_literal mode)
is_allowed_in mode _ = not (is_literal mode)

-- ---- units

-- a byte at which no line end begins
abbrev pub comment_unit : UnitLength
comment_unit = byte_unit (λ b rest. not (is_at_line_end (b ∷ rest)))

-- a byte at which no `*/` begins
abbrev pub inline_unit : UnitLength
inline_unit = byte_unit (λ b rest. not (b == star && slice_index rest 0 == slash))

-- n, r, t, `"` and `\`
abbrev pub is_simple_escape : ℕ → Bool
is_simple_escape e =
    e == letter_n || e == letter_r || e == letter_t || e == quote || e == backslash

abbrev pub has_four_hex : List ℕ → Bool
has_four_hex t = is_ascii_hexdigit (slice_index t 0) && is_ascii_hexdigit (slice_index t 1)
    && is_ascii_hexdigit (slice_index t 2) && is_ascii_hexdigit (slice_index t 3)

-- the number of bytes of the escape after a `\`, 0 where there is none: one of those letters, `u`
-- with four hexadecimal digits, or `U` with eight
abbrev pub escape_length : List ℕ → ℕ
escape_length t =
    if is_simple_escape (slice_index t 0) then 1
    else (if slice_index t 0 == letter_u && has_four_hex (drop 1 t) then 5
    else (if slice_index t 0 == capital_u && (has_four_hex (drop 1 t) && has_four_hex (drop 5 t))
    then 9
    else 0))

-- a unit of quoted text: an escape, `$${`, `%%{`, or any character but `"`, `\` and a line end, at
-- which no `${` or `%{` begins
abbrev pub quote_unit : UnitLength
quote_unit at_line_start [] = 0
quote_unit at_line_start (b ∷ rest) =
    if b == backslash then (if escape_length rest == 0 then 0 else suc (escape_length rest))
    else (if is_sigil b then sigil_length b rest
    else (if b == quote then 0
    else (if is_at_line_end (b ∷ rest) then 0 else 1)))

-- ---- spellings

-- a start character, then continue characters or `-`
abbrev pub is_identifier : List ℕ → Bool
is_identifier [] = false
is_identifier (c ∷ cs) = is_id_start c && list_all is_id_continue cs

abbrev pub is_decimal : List ℕ → Bool
is_decimal [] = false
is_decimal (d ∷ ds) = list_all is_ascii_digit (d ∷ ds)

abbrev pub IsIdentifier : List ℕ → Type 0
IsIdentifier s = IsUtf8 s × IsTrue (is_identifier (chars s))

-- nothing, or `.` and digits
abbrev pub IsFraction : List ℕ → Type 0
IsFraction s =
    (s ≡ []) ⊎ ((digits : List ℕ) × (s ≡ codes "." ++ digits) × IsTrue (is_decimal digits))

abbrev pub IsSign : List ℕ → Type 0
IsSign s = (s ≡ []) ⊎ ((s ≡ codes "+") ⊎ (s ≡ codes "-"))

-- nothing, or `e` or `E`, perhaps a sign, and digits
abbrev pub IsExponent : List ℕ → Type 0
IsExponent s =
    (s ≡ [])
    ⊎ ((letter : ℕ) × (sign : List ℕ) × (digits : List ℕ) × (s ≡ letter ∷ (sign ++ digits))
    × ((letter == letter_e || letter == capital_e) ≡ true) × IsSign sign × IsTrue (is_decimal digits))

abbrev pub IsLineEnd : List ℕ → Type 0
IsLineEnd s = (s ≡ codes "\n") ⊎ (s ≡ codes "\r\n")

-- the spelling of a kind that has only one
abbrev pub fixed_spelling : Kind → Option (List ℕ)
fixed_spelling Plus = Some (codes "+")
fixed_spelling Minus = Some (codes "-")
fixed_spelling Star = Some (codes "*")
fixed_spelling Slash = Some (codes "/")
fixed_spelling Percent = Some (codes "%")
fixed_spelling And = Some (codes "&&")
fixed_spelling Or = Some (codes "||")
fixed_spelling Bang = Some (codes "!")
fixed_spelling DoubleEqual = Some (codes "==")
fixed_spelling NotEqual = Some (codes "!=")
fixed_spelling Less = Some (codes "<")
fixed_spelling Greater = Some (codes ">")
fixed_spelling LessEqual = Some (codes "<=")
fixed_spelling GreaterEqual = Some (codes ">=")
fixed_spelling Question = Some (codes "?")
fixed_spelling Colon = Some (codes ":")
fixed_spelling DoubleColon = Some (codes "::")
fixed_spelling Equal = Some (codes "=")
fixed_spelling FatArrow = Some (codes "=>")
fixed_spelling OpenBrace = Some (codes "{")
fixed_spelling CloseBrace = Some (codes "}")
fixed_spelling OpenBracket = Some (codes "[")
fixed_spelling CloseBracket = Some (codes "]")
fixed_spelling OpenParen = Some (codes "(")
fixed_spelling CloseParen = Some (codes ")")
fixed_spelling Comma = Some (codes ",")
fixed_spelling Dot = Some (codes ".")
fixed_spelling Ellipsis = Some (codes "...")
fixed_spelling QuoteOpen = Some (codes "\"")
fixed_spelling QuoteClose = Some (codes "\"")
fixed_spelling _ = None

-- the text is a spelling of the kind in the mode, with rest after it
abbrev pub Spells : Mode → Kind → List ℕ → List ℕ → Type 0
Spells mode LineEnd s rest = IsLineEnd s
-- `#` or `//` and all up to the line end
Spells mode LineComment s rest =
    ((body : List ℕ) × (s ≡ codes "#" ++ body) × IsRun comment_unit false body rest)
    ⊎ ((body : List ℕ) × (s ≡ codes "//" ++ body) × IsRun comment_unit false body rest)
-- `/*` up to the first `*/`
Spells mode InlineComment s rest =
    (body : List ℕ) × (s ≡ codes "/*" ++ (body ++ codes "*/"))
    × IsRun inline_unit false body (codes "*/" ++ rest)
Spells mode Identifier s rest = IsIdentifier s
Spells mode Number s rest =
    (whole : List ℕ) × (fraction : List ℕ) × (exponent : List ℕ)
    × (s ≡ whole ++ (fraction ++ exponent))
    × IsTrue (is_decimal whole) × IsFraction fraction × IsExponent exponent
Spells mode DotIndex s rest =
    (digits : List ℕ) × (s ≡ codes "." ++ digits) × IsTrue (is_decimal digits)
-- no operator directly before `*` or `/`
Spells mode Slash s rest =
    (fixed_spelling Slash ≡ Some s)
    × ((slice_index rest 0 == star || slice_index rest 0 == slash) ≡ false)
-- `<<` or `<<-`, the marker, and the end of the line
Spells mode HereOpen s rest =
    (dash : List ℕ) × (name : List ℕ) × (end : List ℕ) × (s ≡ codes "<<" ++ (dash ++ (name ++ end)))
    × ((dash ≡ []) ⊎ (dash ≡ codes "-")) × IsIdentifier name × IsLineEnd end
Spells mode SeqClose s rest = (s ≡ codes "}") ⊎ (s ≡ codes "~}")
Spells mode InterpOpen s rest = (s ≡ codes "${") ⊎ (s ≡ codes "${~")
Spells mode DirectiveOpen s rest = (s ≡ codes "%{") ⊎ (s ≡ codes "%{~")
Spells mode QuoteLit s rest = (s ≢ []) × IsRun quote_unit false s rest
Spells mode HereClose s rest = IsClosingLine (marker mode) s rest
Spells mode HereLit s rest = (s ≢ []) × IsRun (heredoc_unit (marker mode)) (is_at_line_start mode) s rest
Spells mode kind s rest = fixed_spelling kind ≡ Some s

abbrev pub IsLexeme : Mode → Kind → List ℕ → List ℕ → Type 0
IsLexeme mode kind s rest = (is_allowed_in mode kind ≡ true) × Spells mode kind s rest

-- no lexeme of the mode at this place is longer
abbrev pub IsLongest : Mode → Kind → List ℕ → List ℕ → Type 0
IsLongest mode kind s rest =
    IsLexeme mode kind s rest
    × ((other : Kind) (s' rest' : List ℕ) → IsLexeme mode other s' rest' → s' ++ rest' ≡ s ++ rest
    → length s' ≤ length s)
