-- The number of each legacy index among the nodes of a text's tree is that of a token of its kind.
use Rattle.std.proofs.Common.{◌≡◌, ◌∙◌, ℕ, zero, suc, List, [], ◌∷◌, refl, sym}
use Rattle.hcl_grammar.specs.declared.tree.ExprKind.TheOpen.{Tail-F}
use Rattle.hcl_grammar.specs.declared.tree.Tail.{Tail, out-Tail}
use Rattle.hcl_grammar.specs.TreeLayers.{TailLayer}
use Rattle.hcl_scan.specs.Follows.{tokens_of}
use Rattle.hcl_token.specs.TokenizedText.{kind_of}
use Rattle.hcl_token.specs.Tokens.{Pair}
use Rattle.tf_rules.specs.Preorder.{Node, expr, term, tail, part, member, PreorderIsUnique}
use Rattle.tf_rules_laws.proofs.All.{all_implies}
use Rattle.tf_rules_laws.proofs.Order.{kind_at, IsLegacyToken, tail_legacy}
use Rattle.tf_rules_laws.proofs.TreeNodes.{each_derived}
use Rattle.tf_rules_laws.specs.LegacyIndices.{IsLegacyTail, IsLegacyNode, LegacyIndicesAreTokens}
use Rattle.tf_rules_laws.specs.NodeSpans.{Derives}

-- the kind of a token, with the gaps and without
same_kind_at : (pairs : List Pair) (n : ℕ) → kind_at (tokens_of pairs) n ≡ kind_of pairs n
same_kind_at [] n = refl
same_kind_at (p ∷ ps) zero = refl
same_kind_at (p ∷ ps) (suc n) = same_kind_at ps n

by_layer : (pairs : List Pair) (x : Tail) → IsLegacyToken (tokens_of pairs) x → (l : TailLayer) → out-Tail x ≡ l → IsLegacyTail pairs l
by_layer pairs x w (Tail-F.LegacyIndex n) h = sym (same_kind_at pairs n) ∙ w n h
by_layer _ _ _ _ _ = tt

at_node : (pairs : List Pair) (n : Node) → Derives (tokens_of pairs) n → IsLegacyNode pairs n
at_node pairs (tail splat x) s = by_layer pairs x (tail_legacy s.4) (out-Tail x) refl
at_node _ _ _ = tt

pub legacy_indices : PreorderIsUnique → LegacyIndicesAreTokens
legacy_indices unique text tree parses nodes is_in_preorder =
    let pairs = parses.pairs in
    all_implies (Derives (tokens_of pairs)) (IsLegacyNode pairs) (at_node pairs) nodes (each_derived unique parses.derived is_in_preorder)
