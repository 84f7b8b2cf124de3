-- The name of its value, how many values it has, and what it does with them.
use Rattle.std.proofs.Common.{◌∙◌, Some, ap}
use Rattle.clap.specs.Walk.{Rule, rule_of}
use Rattle.clap.specs.declared.builder.action.ArgAction.TheVariants.{Append}
use Rattle.tf_cli.specs.Parsing.{one_value}
use Rattle.tf_cli.proofs.Building.{global_of}
use Rattle.tf_cli.proofs.clap_commands.as_rule_option.Goals as goal

abbrev appended : Rule → Rule
appended rule = record rule { action = Some Append }

abbrev counted : Rule → Rule
counted rule = record rule { range = Some one_value }

pub returns : goal.returns
returns c = (
  ap rule_of c.action.ensures ∙ ap appended (ap rule_of c.with_one_value-counted.ensures ∙ ap counted (ap rule_of c.value_name-named.ensures)),
  ap global_of c.action.ensures ∙ (ap global_of c.with_one_value-counted.ensures ∙ ap global_of c.value_name-named.ensures),
)
