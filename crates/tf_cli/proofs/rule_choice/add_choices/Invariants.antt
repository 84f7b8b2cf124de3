use Rattle.std.proofs.Common.{◌≡◌, ◌||◌, take}
use Rattle.tf_rules.specs.declared.rule.Rule.{Rule}
use Rattle.tf_rules.specs.RuleSets.{has_rule}
use Rattle.tf_cli.specs.Choices.{is_chosen}
use Rattle.tf_cli.proofs.rule_choice.add_choices.Given as goal

-- the rules of the set, and those that the choices up to here name
abbrev pub invariant-loop-choice : goal.invariant-loop-choice
invariant-loop-choice l =
    (rule : Rule)
    → has_rule l.rules rule
    ≡ (has_rule l.fn.set rule || is_chosen (take l.choice-index l.fn.enabled) rule)
