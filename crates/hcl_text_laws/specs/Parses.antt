-- Which texts parse.
use Rattle.std.specs.Prelude.{◌≡◌, ℕ, ◌≤◌, false, List, length}
use Rattle.hcl_token.specs.Tokens.{Pair, whole_text}
use Rattle.hcl_scan.specs.Tokenization.{MAX_TEXT, IsTokenization}
use Rattle.hcl_scan.specs.Follows.{AreApart, AreAllowedGaps, tokens_of}
use Rattle.hcl_grammar.specs.declared.bounds.TheConstants.{MAX_NESTING}
use Rattle.hcl_grammar.specs.declared.tree.Tree.{Tree}
use Rattle.hcl_grammar.specs.Bodies.{IsFile}

-- the text has a tokenization, and this tree is derived from its tokens
pub record Parses (text : List ℕ) (t : Tree) : Type 0 where
  pub pairs : List Pair
  pub last : List ℕ
  pub tokenization : IsTokenization text pairs last
  pub derived : IsFile (tokens_of pairs) MAX_NESTING t

-- a text that parses has no empty gap between two tokens that join
abbrev pub ParsedTokensAreApart : Type 0
ParsedTokensAreApart = (text : List ℕ) (pairs : List Pair) (last : List ℕ) (d : ℕ) (t : Tree)
    → IsTokenization text pairs last → IsFile (tokens_of pairs) d t → AreApart pairs

-- a text has one tree at most
abbrev pub OneParse : Type 0
OneParse = (text : List ℕ) (t u : Tree) → Parses text t → Parses text u → t ≡ u

-- The same tokens with other gaps: where each gap is allowed between its tokens, and none is empty
-- between two that join, they are the tokenization of the text that they make, which has the same
-- tree.
abbrev pub OtherGapsParse : Type 0
OtherGapsParse = (text : List ℕ) (pairs others : List Pair) (last other : List ℕ) (d : ℕ) (t : Tree)
    → IsTokenization text pairs last → IsFile (tokens_of pairs) d t
    → tokens_of others ≡ tokens_of pairs → AreAllowedGaps false others other → AreApart others
    → length (whole_text others other) ≤ MAX_TEXT
    → IsTokenization (whole_text others other) others other × IsFile (tokens_of others) d t
