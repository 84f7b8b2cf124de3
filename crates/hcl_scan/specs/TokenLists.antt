-- The tokens of a text, without it.
use Rattle.std.specs.Prelude.{◌≡◌}
use Rattle.hcl_token.specs.TokenizedText.{TokenizedText}
use Rattle.hcl_token.specs.Pairs.{IsWellFormed, tokenized_text}
use Rattle.hcl_scan.specs.declared.token_list.TokenList.{TokenList}

-- these are the tokens of the text, each at its place in it
pub record IsTokenListOf (tokenized : TokenizedText) (list : TokenList) : Type 0 where
  pub are : tokenized_text tokenized.text list.tokens.items list.last_gap_at ≡ tokenized
  pub order : IsWellFormed tokenized.text list.tokens.items list.last_gap_at
