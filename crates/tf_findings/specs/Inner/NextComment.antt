-- Tokens that are no comments.
use Rattle.std.specs.Prelude.{◌≡◌, ℕ, ◌≤◌, ◌<◌, List, true, false, Some}
use Rattle.hcl_token.specs.TokenizedText.{kind_of}
use Rattle.hcl_token.specs.Tokens.{Pair}
use Rattle.hcl_token.specs.declared.kind.Kind.{Kind}
use Rattle.hcl_token.specs.Kinds.{is_line_comment, is_comment}
use Rattle.tf_rules.specs.declared.rule.Rule.{Rule}
use Rattle.tf_findings.specs.Comments.{silences}

-- at a token of this kind the rule on comments finds nothing, and it silences nothing
pub record IsNoComment (kind : Kind) : Type 0 where
  pub other : is_line_comment kind ≡ false
  pub silences_none : (spelling : List ℕ) (rule : Rule) → silences kind spelling rule ≡ false

-- so it is with the tokens from number `from` on up to number `to`
pub record AreNoComments (pairs : List Pair) (from to : ℕ) : Type 0 where
  pub each : (n : ℕ) → from ≤ n → n < to → (kind : Kind) → Some kind ≡ kind_of pairs n → IsNoComment kind

-- one of these tokens is a comment
pub record HasComment (pairs : List Pair) (from to : ℕ) : Type 0 where
  pub place : ℕ
  pub later : from ≤ place
  pub before : place < to
  pub kind : Kind
  pub here : Some kind ≡ kind_of pairs place
  pub comment : is_comment kind ≡ true
