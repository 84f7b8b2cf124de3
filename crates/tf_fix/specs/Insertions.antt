-- The tokens that a fix writes.
use Rattle.std.specs.Prelude.{ℕ, List, [], ◌∷◌, drop, unwrap_or, codes}
use Rattle.hcl_token.specs.declared.kind.Kind.{Kind}
use Rattle.hcl_token.specs.declared.kind.Kind.TheVariants.{Number, OpenBracket, CloseBracket, OpenParen}
use Rattle.hcl_token.specs.declared.kind.Kind.TheVariants.{CloseParen, Identifier, DoubleEqual, Greater}
use Rattle.hcl_token.specs.TokenizedText.{spelling_of}
use Rattle.hcl_token.specs.Tokens.{Pair}
use Rattle.tf_rules.specs.declared.fix.Insertion.{Insertion}
use Rattle.tf_rules.specs.declared.fix.Insertion.TheVariants.{Nothing, Index, Length, IsZero, IsPositive}
use Rattle.tf_rules.specs.declared.fix.Insertion.TheVariants.{OpenBracket as Opening, CloseBracket as Closing}
use Rattle.tf_fix.specs.JoinedTokens.{one_space}

-- the spelling of the token of this number
abbrev pub spelling_at : List Pair → ℕ → List ℕ
spelling_at pairs i = unwrap_or (spelling_of pairs i) []

-- the number of the legacy index that is this token: all but its dot
abbrev pub number_of : List Pair → ℕ → List ℕ
number_of pairs i = drop 1 (spelling_at pairs i)

abbrev pub pair : List ℕ → Kind → List ℕ → Pair
pair gap kind spelling = record { gap = gap; kind = kind; spelling = spelling }

-- the tokens that the fix of a finding writes, with the gaps between them; first is the number of
-- the finding's first token
abbrev pub inserted : List Pair → ℕ → Insertion → List Pair
inserted pairs first Nothing = []
inserted pairs first Index =
    pair [] OpenBracket (codes "[") ∷ pair [] Number (number_of pairs first)
    ∷ pair [] CloseBracket (codes "]") ∷ []
inserted pairs first Length =
    pair [] Identifier (codes "length") ∷ pair [] OpenParen (codes "(") ∷ []
inserted pairs first IsZero =
    pair [] CloseParen (codes ")") ∷ pair one_space DoubleEqual (codes "==")
    ∷ pair one_space Number (codes "0") ∷ []
inserted pairs first IsPositive =
    pair [] CloseParen (codes ")") ∷ pair one_space Greater (codes ">") ∷ pair one_space Number (codes "0")
    ∷ []
inserted pairs first Opening = pair [] OpenBracket (codes "[") ∷ []
inserted pairs first Closing = pair [] CloseBracket (codes "]") ∷ []
