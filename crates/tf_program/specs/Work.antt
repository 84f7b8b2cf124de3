-- Which command an action does to a file.
use Rattle.std.specs.Prelude.{ℕ, List, Option, Some, None, if◌then◌else◌}
use Rattle.tf_cli.specs.Arguments.{is_dash}
use Rattle.tf_cli.specs.declared.options.Action.{Action}
use Rattle.tf_session.specs.declared.command.Command.{Command}
use Rattle.tf_session.specs.declared.command.Command.TheVariants.{Fmt, Fix, Revert, Take}

-- the command of an action that changes files
abbrev pub command_of : Action → Option Command
command_of Action.Format = Some Fmt
command_of Action.Check = None
command_of (Action.Lint rules) = None
command_of (Action.Fix rules) = Some (Fix rules)
command_of (Action.Revert None) = Some Revert
command_of (Action.Revert (Some number)) = Some (Take number)
command_of Action.List = None

-- the command that is done to the file of this name; standard input is never changed
abbrev pub file_command : Action → List ℕ → Option Command
file_command action name = if is_dash name then None else command_of action
