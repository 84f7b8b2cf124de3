use Rattle.std.proofs.Common.{◌≡◌, ◌&&◌, ◌||◌, length}
use Rattle.std.specs.List.{list_all, list_any}
use Rattle.tf_rules.specs.declared.rule.Rule.{Rule}
use Rattle.tf_rules.specs.RuleSets.{has_rule}
use Rattle.tf_findings.specs.Inner.ByteCounts.{split_commas, is_name, names_rule}
use Rattle.tf_findings.proofs.silencing.comment.listed_rules.Given as goal

abbrev pub invariant-loop-rest : goal.invariant-loop-rest
invariant-loop-rest l = (rule : Rule)
    → (list_all is_name (split_commas l.rest) && (has_rule l.rules rule || list_any (names_rule rule) (split_commas l.rest))) ≡ (list_all is_name (split_commas l.fn.t) && list_any (names_rule rule) (split_commas l.fn.t))

abbrev pub decreases-loop-rest : goal.decreases-loop-rest
decreases-loop-rest l = length l.rest
