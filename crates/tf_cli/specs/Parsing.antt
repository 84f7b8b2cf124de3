-- The commands and their options as clap has them: the rules by which it reads arguments. How it
-- reads them by rules, Walk and Simple of clap's specs say.
use Rattle.std.specs.Prelude.{ℕ, true, List, [], ◌∷◌, ◌++◌, pos, Some, codes, if◌then◌else◌}
use Rattle.clap.specs.Lexer.{usize_max}
use Rattle.clap.specs.Walk.{Rule}
use Rattle.clap.specs.Simple.{App, new_app, new_rule, new_shape, with_rule, with_subcommand}
use Rattle.clap.specs.declared.builder.action.ArgAction.TheVariants.{Set, Append, SetTrue}
use Rattle.clap.specs.declared.builder.range.ValueRange.{ValueRange}
use Rattle.clap.specs.declared.builder.value_parser.ValueParser.{ValueParser}
use Rattle.clap.specs.declared.builder.value_parser.ValueParser.TheVariants as vp
use Rattle.tf_cli.specs.Options.{file_count_of, flag_name, flag_value, has_flag}
use Rattle.tf_cli.specs.Options.{all_flags, subcommand_name}
use Rattle.tf_cli.specs.declared.options.FileCount.{FileCount}
use Rattle.tf_cli.specs.declared.options.Flag.{Flag}
use Rattle.tf_cli.specs.declared.options.FlagValue.{FlagValue}
use Rattle.tf_cli.specs.declared.options.Subcommand.{Subcommand}

-- ---- an option

-- one value
abbrev pub one_value : ValueRange
one_value = record { start_inclusive = 1; end_inclusive = 1 }

-- a number of 32 bits
abbrev pub number_parser : ValueParser
number_parser = vp.Signed (pos 0) (pos 4294967295)

-- `--name`, which is also its id
abbrev pub named_rule : List ℕ → Rule
named_rule name = record (new_rule name) { long = Some name }

-- What follows the option: nothing, and then it can be given once; the name of a rule, and then it
-- can be given several times; or a number, and then it can be given once.
abbrev pub with_flag_value : FlagValue → Rule → Rule
with_flag_value FlagValue.Nothing rule = record rule { action = Some SetTrue }
with_flag_value FlagValue.Rule rule =
    record rule { action = Some Append; range = Some one_value; value_names = 1 }
with_flag_value FlagValue.Number rule =
    record rule { action = Some Set; value_names = 1; parser = Some number_parser }

abbrev pub flag_rule : Flag → Rule
flag_rule flag = with_flag_value (flag_value flag) (named_rule (flag_name flag))

-- ---- FILE

-- one value or more
abbrev pub some_values : ValueRange
some_values = record { start_inclusive = 1; end_inclusive = usize_max }

abbrev pub with_file_count : FileCount → Rule → Rule
with_file_count FileCount.Several rule =
    record rule { action = Some Append; range = Some some_values }
with_file_count FileCount.One rule = rule

abbrev pub required_rule : List ℕ → Rule
required_rule name = record (new_rule name) { required = true }

abbrev pub file_rule : FileCount → Rule
file_rule count = with_file_count count (required_rule (codes "FILE"))

-- ---- the arguments of a command

-- the options among these that it has
abbrev pub flag_rules : Subcommand → List Flag → List Rule
flag_rules subcommand [] = []
flag_rules subcommand (flag ∷ flags) =
    if has_flag subcommand flag then flag_rule flag ∷ flag_rules subcommand flags
    else flag_rules subcommand flags

-- its options and FILE
abbrev pub command_rules : Subcommand → List Rule
command_rules subcommand =
    flag_rules subcommand all_flags ++ file_rule (file_count_of subcommand) ∷ []

-- ---- commands

-- a command with these rules more
abbrev pub with_rules : App → List Rule → App
with_rules app [] = app
with_rules app (rule ∷ rules) = with_rules (with_rule app rule) rules

abbrev pub command_app : Subcommand → App
command_app subcommand =
    with_rules (new_app (subcommand_name subcommand)) (command_rules subcommand)

-- the program has a version, and wants a command
abbrev pub empty_program : App
empty_program = record {
  top = record (new_shape (codes "tfk")) { has_version = true; subcommand_required = true };
  subs = [];
}

abbrev pub with_command : Subcommand → App → App
with_command subcommand app = with_subcommand app (command_app subcommand).top

-- The program, with its commands: what clap reads arguments by. It adds -h, --help and the command
-- help, and -V, --version.
unfoldable pub program_app : App
program_app =
    with_command Subcommand.Revert
    (with_command Subcommand.Fix
    (with_command Subcommand.Lint (with_command Subcommand.Fmt empty_program)))
