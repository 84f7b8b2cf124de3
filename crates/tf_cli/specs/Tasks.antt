-- What is to be done, from what clap has read of the arguments: a row for each option and for FILE.
use Rattle.std.specs.Prelude.{◌≡◌, ◌≤◌, ◌<◌, ◌^◌, ◌⊎◌, ◌||◌, ℕ, Bool, true, false, not, List, []}
use Rattle.std.specs.Prelude.{◌++◌, Option, Some, None, map, length, codes, string_bytes, unwrap_or}
use Rattle.std.specs.Prelude.{option_map, if◌then◌else◌, ⊤}
use Rattle.std.specs.Borrow.{Bor}
use Rattle.std.specs.List.{list_any}
use Rattle.std.specs.Str.Parse.{IsNumeral, digits_value, without_leading_plus}
use Rattle.clap.specs.Words.{Row, all_of, one_of}
use Rattle.clap.specs.Words.{subcommand_name_of, subcommand_rows_of}
use Rattle.clap.specs.declared.parser.matches.ArgMatches.{ArgMatches}
use Rattle.tf_rules.specs.declared.rule.Rule.{Rule}
use Rattle.tf_rules.specs.declared.rule_set.RuleSet.{RuleSet}
use Rattle.tf_rules.specs.RuleSets.{has_rule}
use Rattle.tf_cli.specs.Arguments.{is_dash}
use Rattle.tf_cli.specs.Choices.{is_chosen, AreNames, HasUnknownRule}
use Rattle.tf_cli.specs.Options.{subcommand_name, file_count_of, flag_name}
use Rattle.tf_cli.specs.declared.exits.Exit.{Exit}
use Rattle.tf_cli.specs.declared.exits.Exit.TheVariants.{Help, UsageError, Memory}
use Rattle.tf_cli.specs.declared.tasks.Task.{Task}
use Rattle.tf_cli.specs.declared.options.Action.{Action}
use Rattle.tf_cli.specs.declared.options.FileCount.{FileCount}
use Rattle.tf_cli.specs.declared.options.Flag.{Flag}
use Rattle.tf_cli.specs.declared.options.Subcommand.{Subcommand}
use Rattle.tf_cli.specs.declared.rule_choice.Choice.{Choice}

-- ---- what clap has read

-- the values of an option or of FILE, in the order given; none if it is not given
abbrev pub values_of : List Row → List ℕ → List (List ℕ)
values_of rows id = unwrap_or (all_of id rows) []

abbrev pub option_values : List Row → Flag → List (List ℕ)
option_values rows flag = values_of rows (flag_name flag)

-- an option without a value: clap has `true` for it if it is given, else `false` or nothing
abbrev pub IsGiven : List Row → Flag → Bool → Type 0
IsGiven rows flag given =
    (one_of (flag_name flag) rows ≡ Some (codes "true") → given ≡ true)
    × (one_of (flag_name flag) rows ≡ Some (codes "false") → given ≡ false)
    × (one_of (flag_name flag) rows ≡ None → given ≡ false)

-- ---- a number

-- a number of 32 bits, in decimal digits, with a plus before it or not
abbrev pub IsNumeralOfNumber : List ℕ → Type 0
IsNumeralOfNumber text =
    IsNumeral 10 (without_leading_plus text)
    × (digits_value 10 (without_leading_plus text) < 2 ^ 32)

-- the number that a text is, if it is one
abbrev pub IsNumber : List ℕ → Option ℕ → Type 0
IsNumber text None = ¬ (IsNumeralOfNumber text)
IsNumber text (Some number) =
    IsNumeralOfNumber text × (number ≡ digits_value 10 (without_leading_plus text))

-- the number of --take, if it is given
abbrev pub IsTakenNumber : List Row → Option ℕ → Type 0
IsTakenNumber rows number =
    (one_of (flag_name Flag.Take) rows ≡ None → number ≡ None)
    × ((text : List ℕ) → one_of (flag_name Flag.Take) rows ≡ Some text → IsNumber text number)

-- ---- rules

-- the rules that these choices leave enabled: all but the disabled ones, and the enabled ones
abbrev pub AreChosen : List Choice → List Choice → RuleSet → Type 0
AreChosen disabled enabled rules =
    (rule : Rule) → has_rule rules rule ≡ (not (is_chosen disabled rule) || is_chosen enabled rule)

-- the rules by the values of --disable-rule and of --enable-rule
abbrev pub AreChosenRules : List Row → RuleSet → Type 0
AreChosenRules rows rules =
    (disabled : List Choice) × AreNames disabled (option_values rows Flag.DisableRule)
    × (enabled : List Choice) × AreNames enabled (option_values rows Flag.EnableRule)
    × AreChosen disabled enabled rules

-- memory ran out, or one of these names is that of no rule
abbrev pub IsNamesFault : List (List ℕ) → Exit → Type 0
IsNamesFault names exit = (exit ≡ Memory) ⊎ HasUnknownRule names exit

-- that is so of the disabled rules; or these have names, and it is so of the enabled ones
abbrev pub IsRulesFault : List Row → Exit → Type 0
IsRulesFault rows exit =
    IsNamesFault (option_values rows Flag.DisableRule) exit
    ⊎ ((disabled : List Choice) × AreNames disabled (option_values rows Flag.DisableRule)
    × IsNamesFault (option_values rows Flag.EnableRule) exit)

-- ---- actions

-- the text is to be said on standard error; or there is no memory for that
abbrev pub SaysUsage : List ℕ → Exit → Type 0
SaysUsage text (UsageError said) = string_bytes said ≡ text
SaysUsage text Memory = ⊤
SaysUsage text (Help said) = ⊥

-- what is said of --list with --take, in the form of clap's errors
abbrev pub list_with_take : List ℕ
list_with_take =
    codes "error: the argument '--list' cannot be used with '--take <N>'\n\n"
    ++ (codes "Usage: tfk revert [OPTIONS] <FILE>\n\n"
    ++ codes "For more information, try '--help'.\n")

-- what revert does: with --list it lists, else it reverts, by the number of --take if it is given;
-- with both, nothing
abbrev pub IsRevertAction : Bool → Option ℕ → Action → Type 0
IsRevertAction false number action = action ≡ Action.Revert number
IsRevertAction true None action = action ≡ Action.List
IsRevertAction true (Some number) action = ⊥

-- what a command does, by its options
abbrev pub IsAction : Subcommand → List Row → Action → Type 0
IsAction Subcommand.Fmt rows action =
    (given : Bool) × IsGiven rows Flag.Check given
    × (action ≡ (if given then Action.Check else Action.Format))
IsAction Subcommand.Lint rows action =
    (rules : RuleSet) × AreChosenRules rows rules × (action ≡ Action.Lint rules)
IsAction Subcommand.Fix rows action =
    (rules : RuleSet) × AreChosenRules rows rules × (action ≡ Action.Fix rules)
IsAction Subcommand.Revert rows action =
    (given : Bool) × IsGiven rows Flag.List given
    × (number : Option ℕ) × IsTakenNumber rows number × IsRevertAction given number action

-- why there is none: a rule is unknown, or --list is given with --take
abbrev pub IsActionFault : Subcommand → List Row → Exit → Type 0
IsActionFault Subcommand.Fmt rows exit = ⊥
IsActionFault Subcommand.Lint rows exit = IsRulesFault rows exit
IsActionFault Subcommand.Fix rows exit = IsRulesFault rows exit
IsActionFault Subcommand.Revert rows exit =
    IsGiven rows Flag.List true
    × (number : ℕ) × IsTakenNumber rows (Some number) × SaysUsage list_with_take exit

-- ---- tasks

-- `-` is alone, and has no journal
abbrev pub IsAccepted : FileCount → List (Bor (List ℕ)) → Type 0
IsAccepted FileCount.Several files =
    (length files ≤ 1) ⊎ (list_any (λ file. is_dash file.now) files ≡ false)
IsAccepted FileCount.One files = list_any (λ file. is_dash file.now) files ≡ false

-- the FILEs, in the order given
abbrev pub AreFiles : List Row → List (Bor (List ℕ)) → Type 0
AreFiles rows files = map (λ file. file.now) files ≡ values_of rows (codes "FILE")

abbrev pub IsTask : Subcommand → List Row → Task → Type 0
IsTask subcommand rows task =
    IsAction subcommand rows task.action
    × AreFiles rows task.files.items
    × IsAccepted (file_count_of subcommand) task.files.items
    × IsGiven rows Flag.Locate task.locate

-- why there is no task: there is no action; memory ran out; or there is one, and the FILEs are not
-- accepted
abbrev pub IsTaskFault : Subcommand → List Row → Exit → Type 0
IsTaskFault subcommand rows exit =
    IsActionFault subcommand rows exit
    ⊎ (exit ≡ Memory)
    ⊎ ((action : Action) × IsAction subcommand rows action
    × (files : List (Bor (List ℕ))) × AreFiles rows files
    × ¬ (IsAccepted (file_count_of subcommand) files)
    × SaysUsage (codes "tfk: - stands alone\n") exit)

-- ---- the task of a command's name

abbrev pub IsTaskOfName : List ℕ → List Row → Task → Type 0
IsTaskOfName name rows task =
    (subcommand : Subcommand) × (name ≡ subcommand_name subcommand) × IsTask subcommand rows task

abbrev pub IsTaskOfNameFault : List ℕ → List Row → Exit → Type 0
IsTaskOfNameFault name rows exit =
    ((subcommand : Subcommand) × (name ≡ subcommand_name subcommand)
    × IsTaskFault subcommand rows exit)
    ⊎ (((subcommand : Subcommand) → ¬ (name ≡ subcommand_name subcommand))
    × SaysUsage (codes "tfk: no command\n") exit)

-- ---- the task of what clap has read

-- a command has this name and these rows
abbrev pub HasCommand : ArgMatches → List ℕ → List Row → Type 0
HasCommand matches name rows =
    (subcommand_name_of matches ≡ Some name)
    × (option_map (λ found. found.1) (subcommand_rows_of matches) ≡ Some rows)

abbrev pub IsTaskOf : ArgMatches → Task → Type 0
IsTaskOf matches task =
    (name : List ℕ) × (rows : List Row) × HasCommand matches name rows × IsTaskOfName name rows task

abbrev pub IsTaskOfFault : ArgMatches → Exit → Type 0
IsTaskOfFault matches exit =
    ((name : List ℕ) × (rows : List Row) × HasCommand matches name rows
    × IsTaskOfNameFault name rows exit)
    ⊎ ((subcommand_name_of matches ≡ None) × SaysUsage (codes "tfk: no command\n") exit)
