-- Texts and their layouts. Terraform style conventions, in this project's own profile.
use Rattle.std.specs.Prelude.{◌≡◌, ℕ, ◌<◌, List, [], length}
use Rattle.edit_record.specs.Lists.Pieces.{EditList, Transforms}
use Rattle.hcl_token.specs.Tokens.{Pair, whole_text}
use Rattle.hcl_scan.specs.Tokenization.{MAX_TEXT, IsTokenization}
use Rattle.hcl_scan.specs.Follows.{tokens_of}
use Rattle.hcl_layout.specs.Gaps.Layout.{layout_pairs}
use Rattle.hcl_grammar.specs.declared.tree.Tree.{Tree}
use Rattle.hcl_text_laws.specs.Parses.{Parses}

-- the second text is the layout of the first, which has a tokenization
pub record IsLayout (text new : List ℕ) : Type 0 where
  pub pairs : List Pair
  pub last : List ℕ
  pub tokenization : IsTokenization text pairs last
  pub text_is : new ≡ whole_text (layout_pairs pairs) []

-- the layout of a text has more bytes than a text may have
pub record IsTooLong (text : List ℕ) : Type 0 where
  pub new : List ℕ
  pub layout : IsLayout text new
  pub long : MAX_TEXT < length new

-- two texts have the same tokens, comments and line ends among them: they differ in gaps alone
pub record HaveSameTokens (text new : List ℕ) : Type 0 where
  pub pairs : List Pair
  pub others : List Pair
  pub last : List ℕ
  pub other : List ℕ
  pub tokenization : IsTokenization text pairs last
  pub new_tokenization : IsTokenization new others other
  pub same : tokens_of others ≡ tokens_of pairs

-- Edits format a text that parses to this tree: they turn it into its layout, which has the same
-- tokens, parses to the same tree, and is its own layout.
pub record IsLayoutEdits (edits : EditList) (text : List ℕ) (t : Tree) : Type 0 where
  pub new : List ℕ
  pub layout : IsLayout text new
  pub transforms : Transforms edits text new
  pub tokens : HaveSameTokens text new
  pub parses : Parses new t
  pub again : IsLayout new new
