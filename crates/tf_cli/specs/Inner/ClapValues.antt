-- Values of clap's that are made and read: arguments by rules, and commands by these.
use Rattle.std.specs.Prelude.{◌≡◌, ◌⊎◌, ℕ, true, false, List, [], ◌∷◌, ◌++◌, ⊤, Some, Result, Ok, Err}
use Rattle.clap.specs.Walk.{Rule, rule_of}
use Rattle.clap.specs.Words.{AddsSubcommand, Row, rows_of, found_of}
use Rattle.clap.specs.Simple.{App, app_of, new_app}
use Rattle.clap.specs.declared.builder.arg.Arg.{Arg}
use Rattle.clap.specs.declared.builder.command.Command.{Command}
use Rattle.clap.specs.declared.builder.command.Command.TheViews.{out-Command as fields_of}
use Rattle.clap.specs.declared.builder.range.ValueRange.{ValueRange}
use Rattle.clap.specs.declared.builder.value_parser.ValueParser.{ValueParser}
use Rattle.clap.specs.declared.parser.matches.ArgMatches.{ArgMatches}
use Rattle.tf_cli.specs.Options.{has_flag}
use Rattle.tf_cli.specs.Parsing.{flag_rule, with_rules}
use Rattle.tf_cli.specs.declared.options.Flag.{Flag}
use Rattle.tf_cli.specs.declared.options.Subcommand.{Subcommand}

-- ---- arguments

-- a value of clap's for this rule, of one command alone
abbrev pub IsArgumentOf : Rule → Arg → Type 0
IsArgumentOf rule argument = (rule_of argument ≡ rule) × (argument.global ≡ false)

-- one for each rule, in order
abbrev pub AreArguments : List Rule → List Arg → Type 0
AreArguments [] [] = ⊤
AreArguments (rule ∷ rules) (argument ∷ arguments) =
    IsArgumentOf rule argument × AreArguments rules arguments
AreArguments rules arguments = ⊥

-- `made` is the argument with this range, or with this parser
abbrev pub HasRange : ValueRange → Arg → Arg → Type 0
HasRange range argument made = made ≡ record argument { num_vals = Some range }

abbrev pub HasParser : ValueParser → Arg → Arg → Type 0
HasParser parser argument made = made ≡ record argument { value_parser = Some parser }

-- `made` is the argument, changed as its rule is
abbrev pub HasChangedRule : (Rule → Rule) → Arg → Arg → Type 0
HasChangedRule change argument made =
    (rule_of made ≡ change (rule_of argument)) × (made.global ≡ argument.global)

-- `new` is the list with the option, if the command has it
abbrev pub AddsFlag : Subcommand → Flag → List Arg → List Arg → Type 0
AddsFlag subcommand flag old new =
    ((has_flag subcommand flag ≡ false) × (new ≡ old))
    ⊎ ((has_flag subcommand flag ≡ true)
    × (argument : Arg) × IsArgumentOf (flag_rule flag) argument × (new ≡ old ++ argument ∷ []))

-- ---- commands

-- clap has this of the command, and no argument of it is that of another command too
abbrev pub IsCommand : App → Command → Type 0
IsCommand app command = (app_of command ≡ app) × ((fields_of command).has_globals ≡ false)

-- a new command with these arguments
abbrev pub IsNewCommand : List ℕ → List Arg → Command → Type 0
IsNewCommand name arguments command =
    (rules : List Rule) → AreArguments rules arguments
    → IsCommand (with_rules (new_app name) rules) command

-- `new` is the program with the command, which was made
abbrev pub AddsCommand : {E : Type 0} → Command → Result Command E → Command → Type 0
AddsCommand program (Ok command) new = AddsSubcommand program command new
AddsCommand program (Err error) new = ⊥

-- ---- what clap has read

-- the rows of a command's arguments
abbrev pub rows_in : ArgMatches → List Row
rows_in matches = rows_of (found_of matches)
