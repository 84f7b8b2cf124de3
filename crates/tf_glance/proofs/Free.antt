-- No rule finds anything at a node, nor at the nodes inside of it.
use Rattle.std.proofs.Common.{◌≡◌, List, [], ◌∷◌, ◌++◌, length, refl, sym, ap, ap₂, ◌∙◌}
use Rattle.std.proofs.lemmas.Grind.{flat_map-append}
use Rattle.std.specs.List.{flat_map}
use Rattle.hcl_token.specs.Tokens.{Pair}
use Rattle.tf_findings.specs.TreeFindings.{AreTreeFindings}
use Rattle.tf_rules.specs.Findings.{valid_findings}
use Rattle.tf_rules.specs.Preorder.{Node, IsPreorder, no_nodes, visit, children}
use Rattle.tf_rules.specs.Rules.{node_findings}
use Rattle.tf_rules.specs.declared.finding.Finding.{Finding}
use Rattle.tf_rules.specs.declared.rule_set.RuleSet.{RuleSet}
use Rattle.tf_rules_laws.proofs.Nothing.{Nothing}

mutual
  pub data IsFree (pairs : List Pair) : Node → Type 0 where
    free : (n : Node) → ((rules : RuleSet) → Nothing (node_findings rules pairs n)) → AreFree pairs (children n) → IsFree pairs n

  pub data AreFree (pairs : List Pair) : List Node → Type 0 where
    none : AreFree pairs []
    more : (n : Node) (ns : List Node) → IsFree pairs n → AreFree pairs ns → AreFree pairs (n ∷ ns)

pub one : {pairs : List Pair} (n : Node) → IsFree pairs n → AreFree pairs (n ∷ [])
one n f = more n [] f none

pub both : {pairs : List Pair} {ns ms : List Node} → AreFree pairs ns → AreFree pairs ms → AreFree pairs (ns ++ ms)
both none b = b
both (more n ns f a) b = more n (ns ++ _) f (both a b)

-- the same nodes in preorder, and that nothing is found at them
record Visited (rules : RuleSet) (pairs : List Pair) (roots : List Node) : Type 0 where
  nodes : List Node
  preorder : IsPreorder roots nodes
  nothing : flat_map (node_findings rules pairs) nodes ≡ []

all_visited : (rules : RuleSet) {pairs : List Pair} {ns : List Node} → AreFree pairs ns → Visited rules pairs ns
all_visited rules none = record { nodes = []; preorder = no_nodes; nothing = refl }
all_visited rules {pairs} (more n ns (free _ own inside) others) =
    let a = all_visited rules inside in
    let b = all_visited rules others in
    let f = node_findings rules pairs in
    record {
      nodes = n ∷ (a.nodes ++ b.nodes);
      preorder = visit a.preorder b.preorder;
      nothing = ap₂ (λ (xs ys : List Finding). xs ++ ys) (own rules).is (flat_map-append f a.nodes b.nodes ∙ ap₂ (λ (xs ys : List Finding). xs ++ ys) a.nothing b.nothing);
    }

pub tree_findings : (rules : RuleSet) {pairs : List Pair} {ns : List Node} → AreFree pairs ns → AreTreeFindings rules pairs ns []
tree_findings rules {pairs} a =
    let v = all_visited rules a in
    record { nodes = v.nodes; preorder = v.preorder; are = sym (ap (valid_findings (length pairs)) v.nothing) }
