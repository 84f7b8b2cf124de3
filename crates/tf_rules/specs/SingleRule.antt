-- Sets of one rule.
use Rattle.std.specs.Prelude.{◌==◌, map}
use Rattle.tf_rules.specs.declared.rule.Rule.{Rule}
use Rattle.tf_rules.specs.declared.rule_set.RuleSet.{RuleSet}
use Rattle.tf_rules.specs.Table.{all_rules, index_of}

-- the set that has this rule and no other
abbrev pub only : Rule → RuleSet
only rule = record { enabled = map (λ other. index_of other == index_of rule) all_rules }
