-- When a template sequence that is not closed is the mistake, and not what follows it.
use Rattle.std.specs.Prelude.{◌≡◌, ℕ, zero, suc, ◌-◌, ◌==◌, ◌||◌, ◌&&◌, Bool, true, false, not}
use Rattle.std.specs.Prelude.{List, [], ◌∷◌, length, take, drop, slice_index, ◌⊎◌, ◌++◌, codes}
use Rattle.std.specs.Prelude.{Option, Some, None, if◌then◌else◌}
use Rattle.std.specs.List.{list_any, starts_with, prefix_len}
use Rattle.std.specs.Char.{is_ascii_alphabetic}
use Rattle.std.specs.Str.{bytes_eq, byte}
use Rattle.hcl_token.specs.Bytes.{line_feed, carriage_return, tilde}
use Rattle.hcl_token.specs.declared.kind.Kind.{Kind}
use Rattle.hcl_token.specs.declared.kind.Kind.TheVariants as k
use Rattle.hcl_token.specs.Tokens.{Pair}
use Rattle.hcl_token.specs.TokenizedText.{kind_of, spelling_of}
use Rattle.hcl_scan.specs.Characters.{is_whitespace}
use Rattle.hcl_scan.specs.Tokenization.{IsTokenization}
use Rattle.hcl_scan.specs.Fault.{IsFault}
use Rattle.hcl_scan.specs.declared.fault.ScanFault.{ScanFault}
use Rattle.hcl_scan.specs.declared.fault.ScanFault.TheVariants as fault
use Rattle.hcl_grammar.specs.Tokens.{for_word, in_word, if_word}
use Rattle.hcl_explain.specs.Openings.{innermost_open}
use Rattle.hcl_explain.specs.Lines.{first_line, after_line, line_end, closing_place}

-- ---- the tokens of a template sequence

-- the grammar drops a token of this kind, where it drops line ends or not
abbrev pub is_skipped : Option Kind → Bool → Bool
is_skipped None lines = true
is_skipped (Some k.InlineComment) lines = true
is_skipped (Some k.LineEnd) lines = lines
is_skipped (Some k.LineComment) lines = lines
is_skipped (Some _) lines = false

-- the last token before token n that is not dropped
abbrev pub last_before : List Pair → Bool → ℕ → Option ℕ
last_before pairs lines zero = None
last_before pairs lines (suc i) =
    if is_skipped (kind_of pairs i) lines then last_before pairs lines i else Some i

-- a value can end with a token of this kind
abbrev pub is_value_end : Option Kind → Bool
is_value_end (Some k.Identifier) = true
is_value_end (Some k.Number) = true
is_value_end (Some k.DotIndex) = true
is_value_end (Some k.CloseBracket) = true
is_value_end (Some k.CloseParen) = true
is_value_end (Some k.CloseBrace) = true
is_value_end (Some k.QuoteClose) = true
is_value_end (Some k.HereClose) = true
is_value_end _ = false

-- a `*` after a token of the first kind is a splat: after `.` and `[`
abbrev pub is_splat : Option Kind → Option Kind → Bool
is_splat (Some k.Dot) (Some k.Star) = true
is_splat (Some k.OpenBracket) (Some k.Star) = true
is_splat _ _ = false

abbrev pub ends_value : List Pair → ℕ → Bool
ends_value pairs zero = is_value_end (kind_of pairs zero)
ends_value pairs (suc i) =
    is_value_end (kind_of pairs (suc i)) || is_splat (kind_of pairs i) (kind_of pairs (suc i))

-- the token is this word
abbrev pub is_word : Option Kind → Option (List ℕ) → List ℕ → Bool
is_word (Some k.Identifier) (Some spelling) word = bytes_eq spelling word
is_word _ _ word = false

-- `for`, `in` or `if`, after which a value begins
abbrev pub is_keyword : List Pair → ℕ → Bool
is_keyword pairs i =
    let is : List ℕ → Bool = is_word (kind_of pairs i) (spelling_of pairs i) in
    is for_word || (is in_word || is if_word)

abbrev pub is_brace : Option Kind → Bool
is_brace (Some k.OpenBrace) = true
is_brace _ = false

-- line ends are dropped after this opening, the innermost: not in braces
abbrev pub drops_lines_in : List Pair → Option ℕ → Bool
drops_lines_in pairs None = true
drops_lines_in pairs (Some opening) = not (is_brace (kind_of pairs opening))

abbrev pub drops_lines_at_end : List Pair → Bool
drops_lines_at_end pairs = drops_lines_in pairs (innermost_open pairs (length pairs))

-- a value can end with the token, if there is one
abbrev pub is_last_of_value : List Pair → Option ℕ → Bool
is_last_of_value pairs None = false
is_last_of_value pairs (Some last) = ends_value pairs last && not (is_keyword pairs last)

-- a value ends with the last of the tokens, which are in a template sequence
abbrev pub has_value_last : List Pair → Bool
has_value_last pairs =
    is_last_of_value pairs (last_before pairs (drops_lines_at_end pairs) (length pairs))

-- this kind is that of a comment up to the end of its line, and the spelling has a `}`
abbrev pub has_brace : Option Kind → Option (List ℕ) → Bool
has_brace (Some k.LineComment) (Some spelling) = list_any (λ b. b == byte "}") spelling
has_brace _ _ = false

-- the last of the tokens is such a comment
abbrev pub has_brace_in_comment : List Pair → Bool
has_brace_in_comment pairs =
    let last : ℕ = length pairs - 1 in has_brace (kind_of pairs last) (spelling_of pairs last)

-- ---- the text of a template sequence

-- what follows `${`, `%{`, `${~` or `%{~`
abbrev pub sequence_text : List ℕ → List ℕ
sequence_text text = if slice_index text 2 == tilde then drop 3 text else drop 2 text

-- the text has tokens, and these have this property
abbrev pub HasTokens : (List Pair → Bool) → List ℕ → Type 0
HasTokens holds text = (pairs : List Pair) × (last : List ℕ) × IsTokenization text pairs last
    × (holds pairs ≡ true)

-- a value ends with this text of a template sequence: neither a string nor another template
-- sequence can follow
abbrev pub EndsInValue : List ℕ → Type 0
EndsInValue text = HasTokens has_value_last text

-- the line in which this template sequence begins ends in a comment that has a `}`
abbrev pub IsClosedInComment : List ℕ → Type 0
IsClosedInComment sequence = HasTokens has_brace_in_comment (sequence_text (first_line sequence))

-- the bytes from the first number up to the second
abbrev pub between : List ℕ → ℕ → ℕ → List ℕ
between text from until = drop from (take until text)

-- nothing follows in the line
abbrev pub is_line_end : List ℕ → Bool
is_line_end [] = true
is_line_end (b ∷ rest) = b == line_feed || b == carriage_return

-- The template sequence that begins at `opened` is not closed before the quote at `at`, and no
-- string begins there: the sequence begins in the same line; or the line ends after the quote; or a
-- value ends before it.
abbrev pub IsBlamed : List ℕ → ℕ → ℕ → Type 0
IsBlamed text opened at =
    (list_any (λ b. b == line_feed) (between text opened at) ≡ false)
    ⊎ (is_line_end (drop 1 (drop at text)) ≡ true)
    ⊎ EndsInValue (sequence_text (between text opened at))

-- ---- a template sequence that is not closed, where another error is in it

-- the text before byte `at` ends in the template sequence that begins at `opened`
abbrev pub IsOpenBefore : List ℕ → ℕ → ℕ → Type 0
IsOpenBefore text at opened = IsFault (take at text) (fault.OpenTemplate opened)

-- the template sequence that begins at `opened` ends in a value before byte `at`
abbrev pub IsEnded : List ℕ → ℕ → ℕ → Type 0
IsEnded text opened at = EndsInValue (sequence_text (between text opened at))

-- the text begins with `${`
abbrev pub is_interpolation : List ℕ → Bool
is_interpolation text = starts_with (λ a b. a == b) text (codes "${")

abbrev pub is_none : Option ℕ → Bool
is_none None = true
is_none (Some opening) = false

-- a value ends with the last of the tokens, outside of brackets
abbrev pub has_value_alone : List Pair → Bool
has_value_alone pairs =
    is_none (innermost_open pairs (length pairs)) && has_value_last pairs

-- a letter is the first byte that is neither a space nor a tab
abbrev pub begins_with_letter : List ℕ → Bool
begins_with_letter line =
    is_ascii_alphabetic (slice_index (drop (prefix_len is_whitespace line) line) 0)

-- a letter begins the line after the one in which this `${` begins
abbrev pub is_before_letter : List ℕ → Bool
is_before_letter sequence =
    is_interpolation sequence && begins_with_letter (drop 1 (after_line sequence))

-- The line in which the `${` at `opened` begins ends in a value, outside of brackets, and the next
-- line begins with a letter: neither an operator nor the `}` is between these.
abbrev pub EndsWithLine : List ℕ → ℕ → Type 0
EndsWithLine text opened =
    (is_before_letter (drop opened text) ≡ true)
    × IsOpenBefore text (line_end text opened) opened
    × HasTokens has_value_alone (sequence_text (first_line (drop opened text)))

-- this error of the text is one that a template sequence which is not closed makes: the end of the
-- text; a string that is not the mistake; a heredoc whose end is in it; a `${` after a value
abbrev pub IsMadeBy : List ℕ → ℕ → ScanFault → Type 0
IsMadeBy text opened (fault.OpenTemplate at) = at ≡ opened
IsMadeBy text opened (fault.OpenString at) = IsOpenBefore text at opened × IsBlamed text opened at
IsMadeBy text opened (fault.OpenHeredoc at) = IsOpenBefore text (closing_place text at) opened
IsMadeBy text opened (fault.BadCharacter at) =
    IsOpenBefore text at opened
    × ((is_interpolation (drop at text) ≡ true) × IsEnded text opened at)
IsMadeBy text opened _ = ⊥

abbrev pub MakesError : List ℕ → ℕ → Type 0
MakesError text opened = (why : ScanFault) × IsFault text why × IsMadeBy text opened why

abbrev pub IsShownOpen : List ℕ → ℕ → Type 0
IsShownOpen text opened = EndsWithLine text opened ⊎ MakesError text opened

-- the text without this many bytes from byte `at` on
abbrev pub without : List ℕ → ℕ → ℕ → List ℕ
without text at count = take at text ++ drop count (drop at text)

-- a line without the `$` of each `${`
abbrev pub line_without_dollars : List ℕ → List ℕ
line_without_dollars [] = []
line_without_dollars (b ∷ rest) =
    if is_interpolation (b ∷ rest) then line_without_dollars rest else b ∷ line_without_dollars rest

-- the text without the `$` of each `${` in the line of byte `at`, from there on
abbrev pub without_dollars : List ℕ → ℕ → List ℕ
without_dollars text at =
    (take at text ++ line_without_dollars (first_line (drop at text))) ++ after_line (drop at text)

-- the template sequence that begins at `opened` is shown not to be closed by the text, or by the
-- text without these
abbrev pub IsUnclosedWithoutDollars : List ℕ → ℕ → ℕ → Type 0
IsUnclosedWithoutDollars text opened at =
    EndsWithLine text opened ⊎ IsShownOpen (without_dollars text at) opened

-- the template sequence that begins at `opened` is shown not to be closed by the text, or by the
-- text without the bytes at which its error is
abbrev pub IsUnclosed : List ℕ → ℕ → ℕ → ℕ → Type 0
IsUnclosed text opened at count =
    EndsWithLine text opened ⊎ IsShownOpen (without text at count) opened
