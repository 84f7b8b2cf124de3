use Rattle.std.proofs.Common.{◌||◌, take, sym, ap, ◌∙◌}
use Rattle.tf_rules.specs.RuleSets.{has_rule}
use Rattle.tf_cli.specs.Choices.{choice_names, is_chosen}
use Rattle.tf_cli.specs.declared.rule_choice.Choice.TheVariants.{All, One}
use Rattle.tf_cli.proofs.Choosing.{one_more, rule_in, all_in, or_more}
use Rattle.tf_cli.proofs.rule_choice.add_choices.Goals as goal
use Rattle.tf_cli.proofs.rule_choice.add_choices.Goals.{in-All, in-One}

pub loop-choice-preserved : goal.loop-choice-preserved
loop-choice-preserved c = λ rule.
    let given = has_rule c.args.set rule in
    let so_far = is_chosen (take c.loop-choice.choice-index c.args.enabled.now) rule in
    elim c.match-choice.branch [
      | in-All w ↦ ap (λ s. has_rule s rule) w.rules-is ∙ w.all-rules.ensures rule ∙ all_in given so_far
          ∙ sym (ap (λ b. given || b) (one_more c.args.enabled.now c.loop-choice.choice-index All All
          rule c.loop-choice-test.true w.in-All.is))
      | in-One w ↦ ap (λ s. has_rule s rule) w.rules-is
          ∙ rule_in c.loop-choice.rules w.with-rules.result w.in-One.rule rule
          w.with-rules.ensures.added w.with-rules.ensures.others
          ∙ ap (λ b. b || choice_names (One w.in-One.rule) rule) (c.loop-choice.invariant rule)
          ∙ or_more given so_far (choice_names (One w.in-One.rule) rule)
          ∙ sym (ap (λ b. given || b) (one_more c.args.enabled.now c.loop-choice.choice-index
          (One w.in-One.rule) All rule c.loop-choice-test.true w.in-One.is))
    ]
