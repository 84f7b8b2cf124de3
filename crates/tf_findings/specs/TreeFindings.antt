-- What is found in a tree: at its nodes, in preorder.
use Rattle.std.specs.Prelude.{◌≡◌, List, ◌++◌, length}
use Rattle.std.specs.List.{flat_map}
use Rattle.hcl_token.specs.Tokens.{Pair}
use Rattle.tf_rules.specs.declared.rule_set.RuleSet.{RuleSet}
use Rattle.tf_rules.specs.declared.finding.Finding.{Finding}
use Rattle.tf_rules.specs.Findings.{valid_findings}
use Rattle.tf_rules.specs.Rules.{node_findings}
use Rattle.tf_rules.specs.Preorder.{Node, IsPreorder}

pub record AreTreeFindings (rules : RuleSet) (pairs : List Pair) (roots : List Node)
    (found : List Finding) : Type 0 where
  -- all nodes of the tree
  pub nodes : List Node
  pub preorder : IsPreorder roots nodes
  pub are : found ≡ valid_findings (length pairs) (flat_map (node_findings rules pairs) nodes)

-- what is found at some nodes, and at the nodes inside of them, is added to a list
pub record AreAddedFindings (rules : RuleSet) (pairs : List Pair) (roots : List Node)
    (old new : List Finding) : Type 0 where
  pub nodes : List Node
  pub preorder : IsPreorder roots nodes
  pub added : new ≡ old ++ valid_findings (length pairs) (flat_map (node_findings rules pairs) nodes)
