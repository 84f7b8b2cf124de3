use Rattle.std.proofs.Common.{◌≡◌, not, take}
use Rattle.tf_rules.specs.declared.rule.Rule.{Rule}
use Rattle.tf_rules.specs.RuleSets.{has_rule}
use Rattle.tf_cli.specs.Choices.{is_chosen}
use Rattle.tf_cli.proofs.rule_choice.all_except.Given as goal

-- all rules are left but those that the choices up to here name
abbrev pub invariant-loop-choice : goal.invariant-loop-choice
invariant-loop-choice l =
    (rule : Rule) → has_rule l.rules rule ≡ not (is_chosen (take l.choice-index l.fn.disabled) rule)
