-- The numbers of legacy indices.
use Rattle.std.specs.Prelude.{◌≡◌, ℕ, suc, Bool, true, false, List, [], ◌∷◌, ◌++◌, map, Some, if◌then◌else◌}
use Rattle.std.specs.Prelude.{⊤}
use Rattle.std.specs.List.{AllByRecursion}
use Rattle.hcl_grammar.specs.declared.tree.ExprKind.TheOpen.{Tail-F}
use Rattle.hcl_grammar.specs.declared.tree.Tail.{out-Tail}
use Rattle.hcl_grammar.specs.declared.tree.Tree.{Tree}
use Rattle.hcl_grammar.specs.Tokens.{Token}
use Rattle.hcl_grammar.specs.TreeLayers.{TailLayer}
use Rattle.hcl_scan.specs.Follows.{tokens_of}
use Rattle.hcl_text_laws.specs.Parses.{Parses}
use Rattle.hcl_token.specs.TokenizedText.{kind_of}
use Rattle.hcl_token.specs.Tokens.{Pair}
use Rattle.hcl_token.specs.declared.kind.Kind.{Kind}
use Rattle.hcl_token.specs.declared.kind.Kind.TheVariants.{DotIndex}
use Rattle.tf_rules.specs.Preorder.{Node, tail, member, IsPreorder}

-- a tail that is a legacy index has the number of a token of that kind
abbrev pub IsLegacyTail : List Pair → TailLayer → Type 0
IsLegacyTail pairs (Tail-F.LegacyIndex n) = kind_of pairs n ≡ Some DotIndex
IsLegacyTail pairs _ = ⊤

-- so it is with a node that is a tail
abbrev pub IsLegacyNode : List Pair → Node → Type 0
IsLegacyNode pairs (tail splat t) = IsLegacyTail pairs (out-Tail t)
IsLegacyNode pairs _ = ⊤

-- in a text that parses, each legacy index among the nodes of its tree has the number of a token of
-- that kind
abbrev pub LegacyIndicesAreTokens : Type 0
LegacyIndicesAreTokens = (text : List ℕ) (tree : Tree) (parses : Parses text tree) (nodes : List Node)
    → IsPreorder (map member tree.body.members) nodes → AllByRecursion (IsLegacyNode parses.pairs) nodes

-- ---- all of them

abbrev pub is_legacy : Kind → Bool
is_legacy DotIndex = true
is_legacy _ = false

-- the numbers of the legacy indices among these tokens, whose first has number n
abbrev pub legacy_tokens : ℕ → List Token → List ℕ
legacy_tokens n [] = []
legacy_tokens n (t ∷ ts) =
    if is_legacy t.0 then n ∷ legacy_tokens (suc n) ts else legacy_tokens (suc n) ts

abbrev pub tail_number : TailLayer → List ℕ
tail_number (Tail-F.LegacyIndex n) = n ∷ []
tail_number _ = []

abbrev pub node_number : Node → List ℕ
node_number (tail splat t) = tail_number (out-Tail t)
node_number _ = []

-- the numbers of the legacy indices among these nodes, in order
abbrev pub legacy_numbers : List Node → List ℕ
legacy_numbers [] = []
legacy_numbers (n ∷ ns) = node_number n ++ legacy_numbers ns

-- in a text that parses, the legacy indices among its tokens are those among the nodes of its tree:
-- each is the number of one of these, in the same order
abbrev pub LegacyIndicesAreAll : Type 0
LegacyIndicesAreAll = (text : List ℕ) (tree : Tree) (parses : Parses text tree) (nodes : List Node)
    → IsPreorder (map member tree.body.members) nodes
    → legacy_numbers nodes ≡ legacy_tokens 0 (tokens_of parses.pairs)
