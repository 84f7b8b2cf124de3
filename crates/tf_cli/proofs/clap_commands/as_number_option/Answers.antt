-- The name of its value, what it is read as, and what the option does with it.
use Rattle.std.proofs.Common.{◌∙◌, Some, ap}
use Rattle.clap.specs.Walk.{Rule, rule_of}
use Rattle.clap.specs.declared.builder.action.ArgAction.TheVariants.{Set}
use Rattle.tf_cli.specs.Parsing.{number_parser}
use Rattle.tf_cli.proofs.Building.{global_of}
use Rattle.tf_cli.proofs.clap_commands.as_number_option.Goals as goal

abbrev kept : Rule → Rule
kept rule = record rule { action = Some Set }

abbrev parsed : Rule → Rule
parsed rule = record rule { parser = Some number_parser }

pub returns : goal.returns
returns c = (
  ap rule_of c.action.ensures ∙ ap kept (ap rule_of c.with_number_parser-parsed.ensures ∙ ap parsed (ap rule_of c.value_name-named.ensures)),
  ap global_of c.action.ensures ∙ (ap global_of c.with_number_parser-parsed.ensures ∙ ap global_of c.value_name-named.ensures),
)
