-- What is found in a member whose tokens are elsewhere too is what was found in it, its numbers
-- moved.
use Rattle.std.proofs.Common.{◌≡◌, ℕ, List, [], ◌∷◌, ◌++◌, map, length, refl, ap, sym, ◌∙◌}
use Rattle.std.specs.List.{flat_map}
use Rattle.hcl_grammar.specs.declared.tree.Member.{Member}
use Rattle.hcl_scan.specs.Follows.{tokens_of}
use Rattle.hcl_token.specs.Tokens.{Pair}
use Rattle.tf_rules.specs.Rules.{node_findings}
use Rattle.tf_rules.specs.Preorder as nodes
use Rattle.tf_rules.specs.Preorder.{Node, IsPreorder, member}
use Rattle.tf_findings.specs.TreeFindings.{AreTreeFindings}
use Rattle.tf_rules_laws.proofs.FoundNodes.{found_member}
use Rattle.tf_reuse.proofs.RenumberedNodes.{MovedMember}
use Rattle.tf_reuse.proofs.Window.{Here, Same}
use Rattle.tf_reuse.specs.SameTokens.{SameTokens}
use Rattle.tf_reuse.specs.Renumbering.{renumber_finding}
use Rattle.tf_rules.specs.declared.finding.Finding.{Finding}
use Rattle.tf_rules.specs.Findings.{valid_findings}
use Rattle.tf_rules.specs.declared.rule_set.RuleSet.{RuleSet}

-- some nodes have one list of all nodes in them
one_list : {ns xs ys : List Node} → IsPreorder ns xs → IsPreorder ns ys → xs ≡ ys
one_list nodes.no_nodes nodes.no_nodes = refl
one_list (nodes.visit {n = n} {inside = inside} {others = others} a c) (nodes.visit {inside = inside'} {others = others'} b d) =
    ap (λ ms. n ∷ (ms ++ others)) (one_list a b) ∙ ap (λ ms. n ∷ (inside' ++ ms)) (one_list c d)

pub keeps_found : (rules : RuleSet) (old new : List Pair) {from to count : ℕ} (w : SameTokens (tokens_of old) (tokens_of new) from to count) {x y : Member}
    → MovedMember (Here w) (Same w) x y → (found : List Finding)
    → AreTreeFindings rules old (member x ∷ []) found → AreTreeFindings rules new (member y ∷ []) (map (renumber_finding from to) found)
keeps_found rules old new {from} {to} w m found a =
    let s = found_member rules old new w m in
    record {
      nodes = s.nodes';
      preorder = s.is_preorder';
      are = ap (map (renumber_finding from to)) (a.are ∙ ap (λ ns. valid_findings (length old) (flat_map (node_findings rules old) ns)) (one_list a.preorder s.preorder)) ∙ sym s.found.is;
    }
