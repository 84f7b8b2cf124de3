use Rattle.std.proofs.Common.{◌≡◌, ◌<◌}
use Rattle.tf_cli.specs.declared.options.Subcommand.{Subcommand}
use Rattle.tf_cli.specs.Options.{subcommand_name}
use Rattle.tf_cli.proofs.Commands.{number_of}
use Rattle.tf_cli.proofs.options.Subcommand.by_name.Given as goal

-- none of the commands before number i has the name
abbrev pub invariant-loop-i : goal.invariant-loop-i
invariant-loop-i l = (command : Subcommand) → number_of command < l.i → l.name ≡ subcommand_name command → ⊥
