-- The commands, each with its number in the table.
use Rattle.std.proofs.Common.{ℕ, List, [], ◌∷◌}
use Rattle.tf_cli.specs.declared.options.Subcommand.{Subcommand}

abbrev pub all_commands : List Subcommand
all_commands = Subcommand.Fmt ∷ Subcommand.Lint ∷ Subcommand.Fix ∷ Subcommand.Revert ∷ []

abbrev pub number_of : Subcommand → ℕ
number_of Subcommand.Fmt = 0
number_of Subcommand.Lint = 1
number_of Subcommand.Fix = 2
number_of Subcommand.Revert = 3
