-- What one step of the scanner finds at the start of a text, the kind and the length of the longest
-- lexeme of the mode. `Longest` of proofs/ shows that it is the longest lexeme, and that where it
-- finds none there is none.
use Rattle.std.specs.Prelude.{ℕ, ◌+◌, Bool, false, ◌&&◌, ◌||◌, if◌then◌else◌, ◌==◌, nat_lt, List, length}
use Rattle.std.specs.Prelude.{drop, slice_index, Some, None}
use Rattle.std.specs.Char.{is_ascii_digit}
use Rattle.std.specs.List.{prefix_len}
use Rattle.hcl_token.specs.declared.kind.Kind.TheVariants.{LineEnd, LineComment, InlineComment, Number}
use Rattle.hcl_token.specs.declared.kind.Kind.TheVariants.{DotIndex, Plus, Minus, Star, Slash, Percent, And}
use Rattle.hcl_token.specs.declared.kind.Kind.TheVariants.{Or, Bang, DoubleEqual, NotEqual, Less, Greater}
use Rattle.hcl_token.specs.declared.kind.Kind.TheVariants.{LessEqual, GreaterEqual, Question, Colon}
use Rattle.hcl_token.specs.declared.kind.Kind.TheVariants.{DoubleColon, Equal, FatArrow, OpenBrace}
use Rattle.hcl_token.specs.declared.kind.Kind.TheVariants.{CloseBrace, OpenBracket, CloseBracket, OpenParen}
use Rattle.hcl_token.specs.declared.kind.Kind.TheVariants.{CloseParen, Comma, Dot, Ellipsis, QuoteOpen}
use Rattle.hcl_token.specs.declared.kind.Kind.TheVariants.{SeqClose, QuoteClose, QuoteLit}
use Rattle.hcl_scan.specs.Characters.{is_whitespace}
use Rattle.hcl_scan.specs.Modes.{Mode, is_literal, can_close_sequence}
use Rattle.hcl_scan.specs.Modes.Mode.{Quoted, Heredoc}
use Rattle.hcl_scan.specs.Inner.RunLength.{run_length}
use Rattle.hcl_scan.specs.Inner.HeredocToken.{is_at_heredoc_start, here_open, heredoc_token}
use Rattle.hcl_scan.specs.Lexeme.{comment_unit, inline_unit, quote_unit}
pub use Rattle.hcl_scan.specs.Inner.LexemeStarts.{LexedToken, id_continue_length, identifier_of, identifier}
pub use Rattle.hcl_scan.specs.Inner.LexemeStarts.{is_word_start, is_at_opening, opening}

-- ---- operators

-- an operator of one byte that begins no other lexeme
abbrev pub single : ℕ → LexedToken
single a =
    if a == 123 then Some (OpenBrace, 1)
    else (if a == 91 then Some (OpenBracket, 1)
    else (if a == 93 then Some (CloseBracket, 1)
    else (if a == 40 then Some (OpenParen, 1)
    else (if a == 41 then Some (CloseParen, 1)
    else (if a == 44 then Some (Comma, 1)
    else (if a == 63 then Some (Question, 1)
    else (if a == 43 then Some (Plus, 1)
    else (if a == 45 then Some (Minus, 1)
    else (if a == 42 then Some (Star, 1)
    else (if a == 37 then Some (Percent, 1) else None))))))))))

-- an operator of which another begins with the same byte, by its first three bytes
abbrev pub compound : ℕ → ℕ → ℕ → LexedToken
compound a b c =
    if a == 61 then (if b == 61 then Some (DoubleEqual, 2)
    else (if b == 62 then Some (FatArrow, 2) else Some (Equal, 1)))
    else (if a == 46 then (if b == 46 && c == 46 then Some (Ellipsis, 3) else Some (Dot, 1))
    else (if a == 58 then (if b == 58 then Some (DoubleColon, 2) else Some (Colon, 1))
    else (if a == 33 then (if b == 61 then Some (NotEqual, 2) else Some (Bang, 1))
    else (if a == 60 then (if b == 61 then Some (LessEqual, 2) else Some (Less, 1))
    else (if a == 62 then (if b == 61 then Some (GreaterEqual, 2) else Some (Greater, 1))
    else (if a == 38 then (if b == 38 then Some (And, 2) else None)
    else (if a == 124 then (if b == 124 then Some (Or, 2) else None)
    else (if a == 47 then (if b == 42 || b == 47 then None else Some (Slash, 1)) else None))))))))

abbrev pub is_compound : ℕ → Bool
is_compound a =
    a == 61 || a == 46 || a == 58 || a == 33 || a == 60 || a == 62 || a == 38 || a == 124 || a == 47

abbrev pub operator : ℕ → ℕ → ℕ → LexedToken
operator a b c = if is_compound a then compound a b c else single a

-- ---- numbers

abbrev pub decimal_length : List ℕ → ℕ
decimal_length t = prefix_len is_ascii_digit t

-- of `.` and digits, 0 where there are none
abbrev pub fraction_length : List ℕ → ℕ
fraction_length t =
    if slice_index t 0 == 46 && is_ascii_digit (slice_index t 1) then 1 + decimal_length (drop 1 t)
    else 0

abbrev pub is_sign : ℕ → Bool
is_sign b = b == 43 || b == 45

abbrev pub is_exponent_letter : ℕ → Bool
is_exponent_letter b = b == 101 || b == 69

-- of `e` or `E`, perhaps a sign, and digits, 0 where there are none
abbrev pub exponent_length : List ℕ → ℕ
exponent_length t =
    if is_exponent_letter (slice_index t 0)
    then (if is_ascii_digit (slice_index t 1) then 1 + decimal_length (drop 1 t)
    else (if is_sign (slice_index t 1) && is_ascii_digit (slice_index t 2)
    then 2 + decimal_length (drop 2 t) else 0))
    else 0

-- of a fraction and an exponent
abbrev pub tail_length : List ℕ → ℕ
tail_length t = fraction_length t + exponent_length (drop (fraction_length t) t)

abbrev pub number_length : List ℕ → ℕ
number_length t = decimal_length t + tail_length (drop (decimal_length t) t)

-- ---- outside of literal text

abbrev pub inline_comment : List ℕ → LexedToken
inline_comment body =
    if nat_lt (run_length inline_unit false body) (length body)
    then Some (InlineComment, run_length inline_unit false body + 4) else None

-- after a `.` that is the first byte
abbrev pub dot_token : List ℕ → LexedToken
dot_token t =
    if is_ascii_digit (slice_index t 1) then Some (DotIndex, 1 + decimal_length (drop 1 t))
    else compound 46 (slice_index t 1) (slice_index t 2)

-- by the first byte
abbrev pub punctuation : Bool → List ℕ → LexedToken
punctuation can_close t =
    let a = slice_index t 0 in
    let b = slice_index t 1 in
    if a == 10 then Some (LineEnd, 1)
    else (if a == 13 then (if b == 10 then Some (LineEnd, 2) else None)
    else (if a == 34 then Some (QuoteOpen, 1)
    else (if a == 35 then Some (LineComment, 1 + run_length comment_unit false (drop 1 t))
    else (if a == 47 && b == 47
    then Some (LineComment, 2 + run_length comment_unit false (drop 2 t))
    else (if a == 47 && b == 42 then inline_comment (drop 2 t)
    else (if a == 46 && is_ascii_digit b then Some (DotIndex, 1 + decimal_length (drop 1 t))
    else (if a == 125 then (if can_close then Some (SeqClose, 1) else Some (CloseBrace, 1))
    else (if a == 126 then (if b == 125 && can_close then Some (SeqClose, 2) else None)
    else operator a b (slice_index t 2)))))))))

-- where `<<` opens no heredoc, its first byte is an operator
abbrev pub heredoc_or_less : LexedToken → LexedToken
heredoc_or_less None = Some (Less, 1)
heredoc_or_less (Some found) = Some found

abbrev pub expression_token : Bool → List ℕ → LexedToken
expression_token can_close t =
    if is_word_start (slice_index t 0) then identifier t
    else (if is_ascii_digit (slice_index t 0) then Some (Number, number_length t)
    else (if is_at_heredoc_start t then heredoc_or_less (here_open t)
    else punctuation can_close t))

-- ---- in quoted text

abbrev pub quoted_token : List ℕ → LexedToken
quoted_token t =
    if slice_index t 0 == 34 then Some (QuoteClose, 1)
    else (if is_at_opening t then Some (opening t)
    else (if run_length quote_unit false t == 0 then None
    else Some (QuoteLit, run_length quote_unit false t)))

-- ---- in each mode

-- whitespace, and in literal text none
abbrev pub gap_length : Mode → List ℕ → ℕ
gap_length mode t = if is_literal mode then 0 else prefix_len is_whitespace t

abbrev pub token : Mode → List ℕ → LexedToken
token Quoted t = quoted_token t
token (Heredoc name at_line_start) t = heredoc_token name at_line_start t
token mode t = expression_token (can_close_sequence mode) t
