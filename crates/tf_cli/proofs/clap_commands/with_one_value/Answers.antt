-- clap makes the range of the number, or of the numbers, that it is given.
use Rattle.tf_cli.specs.Parsing.{one_value}
use Rattle.tf_cli.proofs.Building.{ranged}
use Rattle.tf_cli.proofs.clap_commands.with_one_value.Goals as goal

pub returns : goal.returns
returns c = ranged c.args.argument c.num_args.result one_value c.num_args.ensures.0 c.num_args.ensures.1
