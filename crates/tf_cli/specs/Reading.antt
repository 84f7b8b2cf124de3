-- The task of a list of arguments: as clap reads them by the program's table, and no other way.
use Rattle.std.specs.Prelude.{◌≡◌, ◌≢◌, ◌⊎◌, ℕ, List, [], Some, map, ⊤}
use Rattle.clap.specs.Faults.{fault_of}
use Rattle.clap.specs.Kinds.{IsAmong}
use Rattle.clap.specs.Simple.{subcommand_of}
use Rattle.clap.specs.Walk.{Row}
use Rattle.clap.specs.declared.error.kind.ErrorKind.{ErrorKind}
use Rattle.clap.specs.declared.error.kind.ErrorKind.TheVariants.{DisplayHelp, DisplayVersion}
use Rattle.tf_cli.specs.Parsing.{program_app}
use Rattle.tf_cli.specs.Tasks.{IsTaskOfName, IsTaskOfNameFault}
use Rattle.tf_cli.specs.declared.command_line.CommandLine.{CommandLine}
use Rattle.tf_cli.specs.declared.exits.Exit.{Exit}
use Rattle.tf_cli.specs.declared.exits.Exit.TheVariants.{Help, UsageError, Memory}
use Rattle.tf_cli.specs.declared.tasks.Task.{Task}

-- the arguments as they are read, after the name of the program
abbrev pub arguments_of : CommandLine → List (List ℕ)
arguments_of line = map (λ arg. arg.now) line.args.items

-- The arguments name this command, and what clap reads of those after it are these rows: for each
-- option that is given and for FILE its values, in the order given.
abbrev pub ReadsCommand : List (List ℕ) → List ℕ → List Row → Type 0
ReadsCommand args name rows = subcommand_of program_app args ≡ Some (name, rows)

-- clap finds no error in the arguments
abbrev pub HasNoError : List (List ℕ) → Type 0
HasNoError args = fault_of program_app args ≡ []

abbrev pub IsTaskOfArguments : List (List ℕ) → Task → Type 0
IsTaskOfArguments args task =
    (name : List ℕ) × (rows : List Row) × ReadsCommand args name rows
    × IsTaskOfName name rows task × HasNoError args

-- The end after an error of this kind: a text for standard output if it is help or the version, else
-- one for standard error, as clap's `use_stderr` says; or there is no memory for the text.
abbrev pub IsExitOfKind : ErrorKind → Exit → Type 0
IsExitOfKind kind (Help text) = (kind ≡ DisplayHelp) ⊎ (kind ≡ DisplayVersion)
IsExitOfKind kind (UsageError text) = (kind ≢ DisplayHelp) × (kind ≢ DisplayVersion)
IsExitOfKind kind Memory = ⊤

-- Memory ran out; or clap finds an error in the arguments, and the end is that of its kind. The word
-- help may have either kind, by clap's definitions.
abbrev pub IsRefused : List (List ℕ) → Exit → Type 0
IsRefused args exit =
    (exit ≡ Memory)
    ⊎ ((kind : ErrorKind) × IsAmong kind (fault_of program_app args) × IsExitOfKind kind exit)

-- Why the arguments have no task: clap finds no error in them, but what it reads has none; or clap
-- refuses them.
abbrev pub IsArgumentsFault : List (List ℕ) → Exit → Type 0
IsArgumentsFault args exit =
    ((name : List ℕ) × (rows : List Row) × ReadsCommand args name rows
    × IsTaskOfNameFault name rows exit × HasNoError args)
    ⊎ IsRefused args exit
