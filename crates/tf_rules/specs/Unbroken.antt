-- Tokens among which no line ends.
use Rattle.std.specs.Prelude.{ℕ, ◌≡◌, ◌≤◌, ◌<◌, List, Some, true, false}
use Rattle.hcl_token.specs.TokenizedText.{kind_of}
use Rattle.hcl_token.specs.declared.kind.Kind.{Kind}
use Rattle.hcl_token.specs.Tokens.{Pair}
use Rattle.tf_rules.specs.Trivia.{is_line_break}

-- none of the tokens from number `first` to number `past` (exclusive) is a line end or a line
-- comment
pub record AreUnbroken (pairs : List Pair) (first past : ℕ) : Type 0 where
  pub each : (i : ℕ) → first ≤ i → i < past → (kind : Kind) → Some kind ≡ kind_of pairs i
      → is_line_break true kind ≡ false
