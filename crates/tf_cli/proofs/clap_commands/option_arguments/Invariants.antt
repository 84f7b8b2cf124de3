-- The options up to here that the command has.
use Rattle.std.proofs.Common.{take}
use Rattle.tf_cli.specs.Parsing.{flag_rules}
use Rattle.tf_cli.specs.Inner.ClapValues.{AreArguments}
use Rattle.tf_cli.proofs.clap_commands.option_arguments.Given as goal

abbrev pub invariant-loop-flag : goal.invariant-loop-flag
invariant-loop-flag l = AreArguments (flag_rules l.subcommand (take l.flag-index l.flags)) l.all.items
