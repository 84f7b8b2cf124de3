use Rattle.std.proofs.Common.{not, take, sym, ap, ◌∙◌}
use Rattle.tf_rules.specs.RuleSets.{has_rule}
use Rattle.tf_cli.specs.Choices.{is_chosen}
use Rattle.tf_cli.specs.declared.rule_choice.Choice.TheVariants.{All, One}
use Rattle.tf_cli.proofs.Choosing.{one_more, rule_out, none_left}
use Rattle.tf_cli.proofs.rule_choice.all_except.Goals as goal
use Rattle.tf_cli.proofs.rule_choice.all_except.Goals.{in-All, in-One}

pub loop-choice-preserved : goal.loop-choice-preserved
loop-choice-preserved c = λ rule.
    let so_far = is_chosen (take c.loop-choice.choice-index c.args.disabled.now) rule in
    elim c.match-choice.branch [
      | in-All w ↦ ap (λ s. has_rule s rule) w.rules-is ∙ w.none-rules.ensures rule ∙ none_left so_far
          ∙ sym (ap not (one_more c.args.disabled.now c.loop-choice.choice-index All All rule
          c.loop-choice-test.true w.in-All.is))
      | in-One w ↦ ap (λ s. has_rule s rule) w.rules-is
          ∙ rule_out c.loop-choice.rules w.without-rules.result so_far w.in-One.rule rule
          (c.loop-choice.invariant rule) w.without-rules.ensures.removed w.without-rules.ensures.others
          ∙ sym (ap not (one_more c.args.disabled.now c.loop-choice.choice-index
          (One w.in-One.rule) All rule c.loop-choice-test.true w.in-One.is))
    ]
