-- How many values FILE has, and that all are kept.
use Rattle.std.proofs.Common.{◌∙◌, Some, ap}
use Rattle.clap.specs.Walk.{Rule, rule_of}
use Rattle.clap.specs.declared.builder.action.ArgAction.TheVariants.{Append}
use Rattle.tf_cli.proofs.Building.{global_of}
use Rattle.tf_cli.proofs.clap_commands.as_files.Goals as goal

abbrev appended : Rule → Rule
appended rule = record rule { action = Some Append }

pub returns : goal.returns
returns c = (
  ap rule_of c.action.ensures ∙ ap appended (ap rule_of c.with_values-several.ensures),
  ap global_of c.action.ensures ∙ ap global_of c.with_values-several.ensures,
)
