-- Which openings are not closed before a token.
-- HCL native syntax specification, Lexical Elements, and Templates.
use Rattle.std.specs.Prelude.{ℕ, zero, suc, Bool, true, false, if◌then◌else◌, List, [], ◌∷◌}
use Rattle.std.specs.Prelude.{drop, slice_get}
use Rattle.std.specs.Prelude.{Option, Some, None, ◌≡◌, ◌⊎◌}
use Rattle.std.specs.Option.{option_and_then}
use Rattle.hcl_token.specs.declared.kind.Kind.{Kind}
use Rattle.hcl_token.specs.declared.kind.Kind.TheVariants.{OpenParen, OpenBracket, OpenBrace}
use Rattle.hcl_token.specs.declared.kind.Kind.TheVariants.{InterpOpen, DirectiveOpen, QuoteOpen}
use Rattle.hcl_token.specs.declared.kind.Kind.TheVariants.{HereOpen, CloseParen, CloseBracket}
use Rattle.hcl_token.specs.declared.kind.Kind.TheVariants.{CloseBrace, SeqClose, QuoteClose}
use Rattle.hcl_token.specs.declared.kind.Kind.TheVariants.{HereClose}
use Rattle.hcl_token.specs.Tokens.{Pair}
use Rattle.hcl_token.specs.TokenizedText.{kind_of}

-- `(`, `[`, `{`, `${`, `%{`, the quotes before a text, the opening of a heredoc
abbrev pub opens : Kind → Bool
opens OpenParen = true
opens OpenBracket = true
opens OpenBrace = true
opens InterpOpen = true
opens DirectiveOpen = true
opens QuoteOpen = true
opens HereOpen = true
opens _ = false

-- `)`, `]`, `}`, the `}` of a template sequence, the quotes after a text, the end of a heredoc
abbrev pub closes : Kind → Bool
closes CloseParen = true
closes CloseBracket = true
closes CloseBrace = true
closes SeqClose = true
closes QuoteClose = true
closes HereClose = true
closes _ = false

-- what closes an opening of this kind
abbrev pub closing_of : Kind → Option Kind
closing_of OpenParen = Some CloseParen
closing_of OpenBracket = Some CloseBracket
closing_of OpenBrace = Some CloseBrace
closing_of InterpOpen = Some SeqClose
closing_of DirectiveOpen = Some SeqClose
closing_of QuoteOpen = Some QuoteClose
closing_of HereOpen = Some HereClose
closing_of _ = None

-- what is open after token i, if this is open before it, the innermost first: numbers of tokens
abbrev pub open_after : Option Kind → ℕ → List ℕ → List ℕ
open_after None i opened = opened
open_after (Some kind) i opened =
    if opens kind then i ∷ opened else if closes kind then drop 1 opened else opened

-- the openings that are not closed before token n, the innermost first
abbrev pub open_before : List Pair → ℕ → List ℕ
open_before pairs zero = []
open_before pairs (suc i) = open_after (kind_of pairs i) i (open_before pairs i)

-- the innermost of them
abbrev pub innermost_open : List Pair → ℕ → Option ℕ
innermost_open pairs n = slice_get (open_before pairs n) 0

-- the second of these tokens is a `}`, which closes the first, a `{`
abbrev pub AreBraces : List Pair → ℕ → ℕ → Type 0
AreBraces pairs opening closing =
    (kind_of pairs opening ≡ Some OpenBrace) × (kind_of pairs closing ≡ Some CloseBrace)
    × (innermost_open pairs closing ≡ Some opening)

-- a token of this kind closes this opening
abbrev pub IsClosedBy : List Pair → ℕ → Kind → Type 0
IsClosedBy pairs opening closing =
    option_and_then closing_of (kind_of pairs opening) ≡ Some closing

-- it closes one of these openings
abbrev pub ClosesOneOf : List Pair → List ℕ → Kind → Type 0
ClosesOneOf pairs [] closing = ⊥
ClosesOneOf pairs (opening ∷ others) closing =
    IsClosedBy pairs opening closing ⊎ ClosesOneOf pairs others closing

-- it closes one of those that are not closed before token n
abbrev pub ClosesAny : List Pair → ℕ → Kind → Type 0
ClosesAny pairs n closing = ClosesOneOf pairs (open_before pairs n) closing

-- it closes not this opening, but one of those around it
abbrev pub ClosesOuter : List Pair → ℕ → Kind → Type 0
ClosesOuter pairs opening closing =
    (IsClosedBy pairs opening closing → ⊥) × ClosesAny pairs opening closing
