-- Words and names by the numbers of their tokens.
use Rattle.std.specs.Prelude.{ℕ, List, [], Option, Some, None, unwrap_or}
use Rattle.hcl_token.specs.TokenizedText.{spelling_of}
use Rattle.hcl_token.specs.Tokens.{Pair}

-- the spelling of a token; nothing where there is no such token
abbrev pub token_text : List Pair → ℕ → List ℕ
token_text pairs n = unwrap_or (spelling_of pairs n) []

-- the spelling of a name that may have no token, as that of the label `""`
abbrev pub name_text : List Pair → Option ℕ → List ℕ
name_text pairs None = []
name_text pairs (Some n) = token_text pairs n
