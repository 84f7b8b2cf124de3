-- The commands and their options, by the names that arguments have for them.
use Rattle.std.specs.Prelude.{ℕ, Bool, true, false, List, [], ◌∷◌, codes}
use Rattle.tf_cli.specs.declared.options.Commands.{Commands}
use Rattle.tf_cli.specs.declared.options.FileCount.{FileCount}
use Rattle.tf_cli.specs.declared.options.Flag.{Flag}
use Rattle.tf_cli.specs.declared.options.FlagValue.{FlagValue}
use Rattle.tf_cli.specs.declared.options.Subcommand.{Subcommand}

abbrev pub subcommand_name : Subcommand → List ℕ
subcommand_name Subcommand.Fmt = codes "fmt"
subcommand_name Subcommand.Lint = codes "lint"
subcommand_name Subcommand.Fix = codes "fix"
subcommand_name Subcommand.Revert = codes "revert"

-- which files a command takes
abbrev pub file_count_of : Subcommand → FileCount
file_count_of Subcommand.Fmt = FileCount.Several
file_count_of Subcommand.Lint = FileCount.Several
file_count_of Subcommand.Fix = FileCount.Several
file_count_of Subcommand.Revert = FileCount.One

-- the name of an option, without the `--`
abbrev pub flag_name : Flag → List ℕ
flag_name Flag.Check = codes "check"
flag_name Flag.EnableRule = codes "enable-rule"
flag_name Flag.DisableRule = codes "disable-rule"
flag_name Flag.Take = codes "take"
flag_name Flag.List = codes "list"
flag_name Flag.Locate = codes "locate"

-- what follows an option
abbrev pub flag_value : Flag → FlagValue
flag_value Flag.Check = FlagValue.Nothing
flag_value Flag.EnableRule = FlagValue.Rule
flag_value Flag.DisableRule = FlagValue.Rule
flag_value Flag.Take = FlagValue.Number
flag_value Flag.List = FlagValue.Nothing
flag_value Flag.Locate = FlagValue.Nothing

-- which commands have an option
abbrev pub flag_commands : Flag → Commands
flag_commands Flag.Check = Commands.Fmt
flag_commands Flag.EnableRule = Commands.LintAndFix
flag_commands Flag.DisableRule = Commands.LintAndFix
flag_commands Flag.Take = Commands.Revert
flag_commands Flag.List = Commands.Revert
flag_commands Flag.Locate = Commands.All

abbrev pub is_among : Commands → Subcommand → Bool
is_among Commands.Fmt Subcommand.Fmt = true
is_among Commands.Fmt subcommand = false
is_among Commands.LintAndFix Subcommand.Lint = true
is_among Commands.LintAndFix Subcommand.Fix = true
is_among Commands.LintAndFix subcommand = false
is_among Commands.Revert Subcommand.Revert = true
is_among Commands.Revert subcommand = false
is_among Commands.All subcommand = true

-- a command has an option
abbrev pub has_flag : Subcommand → Flag → Bool
has_flag subcommand flag = is_among (flag_commands flag) subcommand

-- the options, in the order of the help of each command
abbrev pub all_flags : List Flag
all_flags =
    Flag.Check ∷ Flag.EnableRule ∷ Flag.DisableRule ∷ Flag.Take ∷ Flag.List ∷ Flag.Locate ∷ []
