-- The test of a finding's numbers drops none of those that a rule names.
use Rattle.std.specs.Prelude.{◌≡◌, ℕ, List, map, length}
use Rattle.hcl_grammar.specs.declared.tree.Tree.{Tree}
use Rattle.hcl_text_laws.specs.Parses.{Parses}
use Rattle.tf_rules.specs.Preorder.{Node, member, IsPreorder}
use Rattle.tf_findings.specs.Findings.{all_findings}
use Rattle.tf_rules.specs.declared.rule_set.RuleSet.{RuleSet}
use Rattle.tf_rules.specs.Findings.{valid_findings}

-- In a text that parses, what the rules find is all that they name at the nodes of its tree, at its
-- blocks and at its comments: the test of a finding drops none.
abbrev pub NoFindingIsDropped : Type 0
NoFindingIsDropped = (text : List ℕ) (tree : Tree) (parses : Parses text tree) (rules : RuleSet)
    (nodes : List Node) → IsPreorder (map member tree.body.members) nodes
    → valid_findings (length parses.pairs) (all_findings rules parses.pairs tree.body.members nodes)
    ≡ all_findings rules parses.pairs tree.body.members nodes
