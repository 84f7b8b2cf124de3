-- What is in a tree is one list, and what is collected is found there.
use Rattle.std.proofs.Common.{◌≡◌, Bool, List, [], ◌∷◌, ◌++◌, length, filter, refl, sym, ap, ◌∙◌, append-nil, append_assoc}
use Rattle.std.specs.List.{flat_map}
use Rattle.std.proofs.lemmas.List.Elements.{filter-append}
use Rattle.hcl_token.specs.Tokens.{Pair}
use Rattle.tf_rules.specs.declared.rule_set.RuleSet.{RuleSet}
use Rattle.tf_rules.specs.declared.finding.Finding.{Finding}
use Rattle.tf_findings.specs.Inner.Collects.{Collects, no_nodes, visit}
use Rattle.tf_rules.specs.Findings.{is_valid, valid_findings}
use Rattle.tf_rules.specs.Rules.{node_findings}
use Rattle.tf_rules.specs.Preorder as nodes
use Rattle.tf_rules.specs.Preorder.{Node, IsPreorder, children}
use Rattle.tf_findings.specs.TreeFindings.{AreAddedFindings, AreTreeFindings}

-- a tree has one list of nodes
pub one_tree : {ns xs ys : List Node} → IsPreorder ns xs → IsPreorder ns ys → xs ≡ ys
one_tree nodes.no_nodes nodes.no_nodes = refl
one_tree (nodes.visit {n = n} {inside = inside} {others = others} a c) (nodes.visit {inside = inside'} {others = others'} b d) =
    ap (λ ms. n ∷ (ms ++ others)) (one_tree a b) ∙ ap (λ ms. n ∷ (inside' ++ ms)) (one_tree c d)

flat_map-append : {X Y : Type 0} (f : X → List Y) (xs ys : List X) → flat_map f (xs ++ ys) ≡ flat_map f xs ++ flat_map f ys
flat_map-append f [] ys = refl
flat_map-append f (x ∷ xs) ys = ap (λ l. f x ++ l) (flat_map-append f xs ys) ∙ sym (append_assoc (f x) _ _)

-- what each node adds
record Sums (rules : RuleSet) (pairs : List Pair) (roots : List Node) (old new : List Finding) : Type 0 where
  nodes : List Node
  preorder : IsPreorder roots nodes
  added : new ≡ old ++ flat_map (λ n. valid_findings (length pairs) (node_findings rules pairs n)) nodes

summed : {rules : RuleSet} {pairs : List Pair} {ns : List Node} {xs ys : List Finding} → Collects rules pairs ns xs ys → Sums rules pairs ns xs ys
summed (no_nodes {xs = xs}) = record { nodes = []; preorder = nodes.no_nodes; added = sym (append-nil xs) }
summed {rules} {pairs} (visit {n = n} {ns = ns} {xs = xs} {ys = ys} {zs = zs} a c) =
    let f : Node → List Finding = λ n. valid_findings (length pairs) (node_findings rules pairs n) in
    let inside = summed a in
    let others = summed c in
    record {
      nodes = n ∷ (inside.nodes ++ others.nodes);
      preorder = nodes.visit inside.preorder others.preorder;
      added = others.added ∙ (ap (λ l. l ++ flat_map f others.nodes) inside.added
          ∙ (append_assoc (xs ++ f n) (flat_map f inside.nodes) (flat_map f others.nodes)
          ∙ (append_assoc xs (f n) _ ∙ ap (λ l. xs ++ (f n ++ l)) (sym (flat_map-append f inside.nodes others.nodes)))));
    }

-- those that pass in a list of lists
filter_flat : {X Y : Type 0} (p : Y → Bool) (f : X → List Y) (xs : List X) → flat_map (λ x. filter p (f x)) xs ≡ filter p (flat_map f xs)
filter_flat p f [] = refl
filter_flat p f (x ∷ xs) = ap (λ l. filter p (f x) ++ l) (filter_flat p f xs) ∙ sym (filter-append p (f x) (flat_map f xs))

pub all_findings : {rules : RuleSet} {pairs : List Pair} {ns : List Node} {xs ys : List Finding} → Collects rules pairs ns xs ys → AreAddedFindings rules pairs ns xs ys
all_findings {rules} {pairs} {xs = xs} c =
    let g = summed c in
    record { nodes = g.nodes; preorder = g.preorder; added = g.added ∙ ap (λ l. xs ++ l) (filter_flat (is_valid (length pairs)) (node_findings rules pairs) g.nodes) }

pub collected : {rules : RuleSet} {pairs : List Pair} {ns : List Node} {begun found : List Finding} → begun ≡ [] → Collects rules pairs ns begun found
    → AreTreeFindings rules pairs ns found
collected {rules} {pairs} e c =
    let g = all_findings c in
    record { nodes = g.nodes; preorder = g.preorder; are = g.added ∙ ap (λ l. l ++ valid_findings (length pairs) (flat_map (node_findings rules pairs) g.nodes)) e }
