-- clap takes the parser as it is.
use Rattle.std.proofs.Common.{◌∙◌}
use Rattle.tf_cli.specs.Parsing.{number_parser}
use Rattle.tf_cli.proofs.Building.{parsed_by}
use Rattle.tf_cli.proofs.clap_commands.with_number_parser.Goals as goal

pub returns : goal.returns
returns c =
    let given = c.value_parser.ensures.given in
    parsed_by c.args.argument c.value_parser.result number_parser given.0 c.value_parser.ensures.others given.1 (given.2 ∙ c.value_parser-parser.ensures)
