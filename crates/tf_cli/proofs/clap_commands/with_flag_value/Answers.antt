-- What follows the option is in its row.
use Rattle.std.proofs.Common.{◌∙◌, subst, sym}
use Rattle.tf_cli.specs.Parsing.{with_flag_value}
use Rattle.tf_cli.specs.Inner.ClapValues.{HasChangedRule}
use Rattle.tf_cli.specs.declared.options.FlagValue.{FlagValue}
use Rattle.tf_cli.proofs.clap_commands.with_flag_value.Goals as goal

pub returns-in-Nothing : goal.returns-in-Nothing
returns-in-Nothing c =
    subst (λ (value : FlagValue). HasChangedRule (with_flag_value value) c.args.argument c.as_switch.result) (sym c.in-Nothing.is ∙ c.info.ensures.value) c.as_switch.ensures

pub returns-in-Rule : goal.returns-in-Rule
returns-in-Rule c =
    subst (λ (value : FlagValue). HasChangedRule (with_flag_value value) c.args.argument c.as_rule_option.result) (sym c.in-Rule.is ∙ c.info.ensures.value) c.as_rule_option.ensures

pub returns-in-Number : goal.returns-in-Number
returns-in-Number c =
    subst (λ (value : FlagValue). HasChangedRule (with_flag_value value) c.args.argument c.as_number_option.result) (sym c.in-Number.is ∙ c.info.ensures.value) c.as_number_option.ensures
