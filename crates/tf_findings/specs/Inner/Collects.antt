-- For proofs: lists to which the findings at nodes, and at the nodes inside of them, are added.
use Rattle.std.specs.Prelude.{List, [], ◌∷◌, ◌++◌, length}
use Rattle.hcl_token.specs.Tokens.{Pair}
use Rattle.tf_rules.specs.declared.rule_set.RuleSet.{RuleSet}
use Rattle.tf_rules.specs.declared.finding.Finding.{Finding}
use Rattle.tf_rules.specs.Findings.{valid_findings}
use Rattle.tf_rules.specs.Rules.{node_findings}
use Rattle.tf_rules.specs.Preorder.{Node, children}
use Rattle.tf_findings.specs.declared.walk.WalkContext.{WalkContext}

pub data Collects (rules : RuleSet) (pairs : List Pair) : List Node → List Finding → List Finding
    → Type 0 where
  no_nodes : {xs : List Finding} → Collects rules pairs [] xs xs
  visit : {n : Node} {ns : List Node} {xs ys zs : List Finding}
      → Collects rules pairs (children n)
      (xs ++ valid_findings (length pairs) (node_findings rules pairs n)) ys
      → Collects rules pairs ns ys zs → Collects rules pairs (n ∷ ns) xs zs

-- the same in a walk
abbrev pub Walked : WalkContext → List Node → List Finding → List Finding → Type 0
Walked cx ns xs ys = Collects cx.lint.rules cx.lint.scanned.now.pairs ns xs ys
