-- The opening of a heredoc that is a mistake, and so none: the lines after it are read as values.
use Rattle.std.specs.Prelude.{◌≡◌, ℕ, zero, suc, ◌&&◌, ◌||◌, ◌==◌, Bool, true, false, not}
use Rattle.std.specs.Prelude.{List, length, take, drop, slice_index, Option, Some, None, codes}
use Rattle.std.specs.Prelude.{if◌then◌else◌}
use Rattle.std.specs.List.{starts_with, prefix_len}
use Rattle.std.specs.Char.{is_ascii_alphanumeric}
use Rattle.std.specs.Str.{byte}
use Rattle.hcl_token.specs.Bytes.{minus}
use Rattle.hcl_token.specs.declared.kind.Kind.{Kind}
use Rattle.hcl_token.specs.declared.kind.Kind.TheVariants as k
use Rattle.hcl_token.specs.Tokens.{Pair}
use Rattle.hcl_token.specs.TokenizedText.{TokenizedText, kind_of}
use Rattle.hcl_scan.specs.Tokenization.{IsTokenization}
use Rattle.hcl_text_laws.specs.Faults.{byte_offset}
use Rattle.hcl_explain.specs.Lines.{after_opening, line_start}
use Rattle.hcl_explain.specs.Sequences.{begins_with_letter, is_line_end, last_before}

-- ---- its tokens

-- a value begins after a token of this kind
abbrev pub is_before_value : Option Kind → Bool
is_before_value (Some k.Equal) = true
is_before_value (Some k.FatArrow) = true
is_before_value (Some k.Comma) = true
is_before_value (Some k.Colon) = true
is_before_value (Some k.Question) = true
is_before_value (Some k.OpenParen) = true
is_before_value (Some k.OpenBracket) = true
is_before_value (Some k.DoubleEqual) = true
is_before_value (Some k.NotEqual) = true
is_before_value (Some k.Plus) = true
is_before_value _ = false

abbrev pub begins_after : List Pair → Option ℕ → Bool
begins_after pairs None = false
begins_after pairs (Some last) = is_before_value (kind_of pairs last)

abbrev pub is_less : Option Kind → Bool
is_less (Some k.Less) = true
is_less _ = false

-- the token is a `<` where a value begins, with which none can
abbrev pub is_less_for_value : List Pair → ℕ → Bool
is_less_for_value pairs i =
    is_less (kind_of pairs i) && begins_after pairs (last_before pairs true i)

-- the last such token before token n
abbrev pub less_before : List Pair → ℕ → Option ℕ
less_before pairs zero = None
less_before pairs (suc i) = if is_less_for_value pairs i then Some i else less_before pairs i

-- ---- its text

abbrev pub is_name_byte : ℕ → Bool
is_name_byte b = is_ascii_alphanumeric b || b == byte "_"

-- a name is all that the first line has
abbrev pub is_name_alone : List ℕ → Bool
is_name_alone text =
    let len : ℕ = prefix_len is_name_byte text in not (len == 0) && is_line_end (drop len text)

abbrev pub is_double : List ℕ → Bool
is_double text = starts_with (λ a b. a == b) text (codes "<<")

-- what follows `<` or `<-`
abbrev pub after_single : List ℕ → List ℕ
after_single text = if slice_index text 1 == minus then drop 2 text else drop 1 text

-- a name or a quote follows `<<` or `<<-`; or a name, and the end of the line, `<` or `<-`
abbrev pub is_opening_text : List ℕ → Bool
is_opening_text text =
    if is_double text
    then begins_with_letter (after_opening text) || slice_index (after_opening text) 0 == byte "\""
    else is_name_alone (after_single text)

-- ---- where it is

-- the last `<` for a value, of a text that has tokens, begins at this byte
abbrev pub IsLastLess : List ℕ → ℕ → Type 0
IsLastLess text at =
    (t : TokenizedText) × (t.text ≡ text) × IsTokenization text t.pairs t.last × (i : ℕ)
    × (less_before t.pairs (length t.pairs) ≡ Some i) × (byte_offset t i ≡ at)

-- the opening of a heredoc that is a mistake begins at byte `opened`, in a line before that of byte
-- `at`
abbrev pub IsOpeningBefore : List ℕ → ℕ → ℕ → Type 0
IsOpeningBefore text at opened =
    IsLastLess (take (line_start text at) text) opened
    × (is_opening_text (drop opened text) ≡ true)
