-- From clap's matches to the arguments: what clap has found is what it reads of them.
use Rattle.std.proofs.Common.{◌≡◌, ◌≢◌, ◌⊎◌, ◌∙◌, ◌&&◌, ℕ, Bool, true, false, not, List, [], ◌∷◌, Option, Some, None, is_some, option_map, unwrap_or, box_value, inl, inr, refl, sym, ap, ap₂, subst}
use Rattle.std.specs.List.{list_any}
use Rattle.clap.specs.Facts.{explicit_source}
use Rattle.clap.specs.Faults.{check_fault, defaults_fault, is_simple_and_free, level_fault, settle_fault, walk_fault}
use Rattle.clap.specs.Kinds.{IsAmong, Kinds, check_kinds, or_else}
use Rattle.clap.specs.Matches.{found_of, subcommand_name_of}
use Rattle.clap.specs.Simple.{Shape, argument_words, built, is_simple, names_of, subcommand_of, subcommand_rows_of}
use Rattle.clap.specs.Takes.{is_given}
use Rattle.clap.specs.Walk.{Names, Row, Rule, finished, nothing_held, rows_of, settled, walk, walk_from}
use Rattle.clap.specs.declared.error.kind.ErrorKind.{ErrorKind}
use Rattle.clap.specs.declared.error.kind.ErrorKind.TheVariants.{DisplayHelp, DisplayVersion}
use Rattle.clap.specs.declared.parser.matches.ArgMatches.{ArgMatches}
use Rattle.clap.specs.declared.parser.matches.ArgMatches.TheViews.{out-ArgMatches, out-SubCommand}
use Rattle.tf_cli.specs.Parsing.{program_app}
use Rattle.tf_cli.specs.Reading.{HasNoError, IsArgumentsFault, IsTaskOfArguments}
use Rattle.tf_cli.specs.Tasks.{HasCommand, IsTaskOf, IsTaskOfFault}
use Rattle.tf_cli.specs.declared.exits.Exit.{Exit}
use Rattle.tf_cli.specs.declared.tasks.Task.{Task}

-- clap says what it reads by a table of this kind, and what it refuses
pub program_is_simple : is_simple program_app ≡ true
unfolding program_app
program_is_simple = refl

pub program_is_free : is_simple_and_free program_app ≡ true
unfolding program_app
program_is_free = refl

pub among_same : (kind : ErrorKind) (found kinds : Kinds) → IsAmong kind found → found ≡ kinds → IsAmong kind kinds
among_same kind found kinds among same = subst (λ (ks : Kinds). IsAmong kind ks) same among

-- what is not printed on standard error is the help or the version
pub help_or_version : (kind : ErrorKind) → ((kind ≢ DisplayHelp) × (kind ≢ DisplayVersion) → ⊥) → (kind ≡ DisplayHelp) ⊎ (kind ≡ DisplayVersion)
help_or_version DisplayHelp shown = inl refl
help_or_version DisplayVersion shown = inr refl
help_or_version kind shown = absurd (shown (λ is. cc, λ is. cc))

-- two parts of what may be there, and both of them
abbrev both : {X : Type 0} → (X → List ℕ) → (X → List Row) → X → List ℕ × List Row
both name rows x = (name x, rows x)

abbrev found_pair : List ℕ → List Row → Option (List ℕ × List Row)
found_pair name rows = Some (name, rows)

both_found : {X : Type 0} (o : Option X) (f : X → List ℕ) (g : X → List Row) (name : List ℕ) (rows : List Row) → option_map f o ≡ Some name
    → option_map (λ (p : List ℕ × List Row). p.1) (option_map (both f g) o) ≡ Some rows → option_map (both f g) o ≡ found_pair name rows
both_found None f g name rows is_name are_rows = cc
both_found (Some x) f g name rows is_name are_rows =
    let same_name : f x ≡ name = ap (λ (o : Option (List ℕ)). unwrap_or o (f x)) is_name in
    let same_rows : g x ≡ rows = ap (λ (o : Option (List Row)). unwrap_or o (g x)) are_rows in
    ap₂ found_pair same_name same_rows

none_found : {X : Type 0} (o : Option X) (f : X → List ℕ) (g : X → List Row) → option_map f o ≡ None → option_map (both f g) o ≡ None
none_found None f g none = refl
none_found (Some x) f g none = cc

command_found : (matches : ArgMatches) (name : List ℕ) (rows : List Row) → HasCommand matches name rows → subcommand_rows_of matches ≡ Some (name, rows)
command_found matches name rows has =
    both_found (out-ArgMatches matches).subcommand (λ b. (out-SubCommand (box_value b)).name.now)
    (λ b. rows_of (found_of (out-SubCommand (box_value b)).matches)) name rows has.0 has.1

no_command_found : (matches : ArgMatches) → subcommand_name_of matches ≡ None → subcommand_rows_of matches ≡ None
no_command_found matches none =
    none_found (out-ArgMatches matches).subcommand (λ b. (out-SubCommand (box_value b)).name.now)
    (λ b. rows_of (found_of (out-SubCommand (box_value b)).matches)) none

-- ---- the program wants a command: without one, clap finds an error

second_is_empty : (first second : Kinds) → or_else first second ≡ [] → second ≡ []
second_is_empty [] second is = is
second_is_empty (kind ∷ kinds) second is = cc

wanted : (wants_help wants_command wants_argument : Bool) → wants_command ≡ true → check_kinds wants_help wants_command wants_argument ≡ [] → ⊥
wanted wants_help false wants_argument required is = cc
wanted true true wants_argument required is = cc
wanted false true wants_argument required is = cc

-- the checks after the walk, where no command was met
not_met : (shape : Shape) (rows : List Row) → shape.subcommand_required ≡ true → check_fault shape rows false ≡ [] → ⊥
not_met shape rows required is =
    wanted (shape.arg_required_else_help && not (list_any (λ (row : Row). explicit_source row.source) rows)) shape.subcommand_required
    (not (shape.subcommand_negates_reqs && false) && list_any (λ (rule : Rule). rule.required && not (is_given rule.id rows)) shape.rules) required is

abbrev top : Shape
top = (built program_app).top

checked : (names : Names) (words : List (List ℕ)) (has_command : Bool) (below : Kinds) → level_fault top names nothing_held words has_command below ≡ []
    → check_fault top (finished top.rules (walk top.rules names nothing_held words).held) has_command ≡ []
checked names words has_command below is =
    let end = (walk top.rules names nothing_held words).held in
    let defaults = defaults_fault (settled top.rules end).rows top.rules in
    let check = check_fault top (finished top.rules end) has_command in
    let last = or_else defaults check in
    let settling = or_else (settle_fault top.rules top.args_override_self end) last in
    second_is_empty defaults check
    (second_is_empty (settle_fault top.rules top.args_override_self end) last
    (second_is_empty below settling (second_is_empty (walk_fault top names (walk_from nothing_held) words) (or_else below settling) is)))

wants_command : (names : Names) (words : List (List ℕ)) (found : Option (List ℕ × List Row)) (below : Kinds) → found ≡ None
    → level_fault top names nothing_held words (is_some found) below ≡ [] → ⊥
unfolding program_app
wants_command names words None below is no_error =
    not_met top (finished top.rules (walk top.rules names nothing_held words).held) refl (checked names words false below no_error)
wants_command names words (Some x) below is no_error = cc

pub has_command : (args : List (List ℕ)) → HasNoError args → subcommand_of program_app args ≡ None → ⊥
has_command args no_error none =
    wants_command (names_of (built program_app)) (argument_words program_app args) (subcommand_of program_app args) _ none no_error

pub task_found : (matches : ArgMatches) (args : List (List ℕ)) (task : Task) → subcommand_rows_of matches ≡ subcommand_of program_app args
    → HasNoError args → IsTaskOf matches task → IsTaskOfArguments args task
task_found matches args task found no_error is =
    (is.0, is.1, sym found ∙ command_found matches is.0 is.1 is.2, is.3, no_error)

pub fault_found : (matches : ArgMatches) (args : List (List ℕ)) (exit : Exit) → subcommand_rows_of matches ≡ subcommand_of program_app args
    → HasNoError args → IsTaskOfFault matches exit → IsArgumentsFault args exit
fault_found matches args exit found no_error (inl is) =
    inl (is.0, is.1, sym found ∙ command_found matches is.0 is.1 is.2, is.3, no_error)
fault_found matches args exit found no_error (inr is) =
    absurd (has_command args no_error (sym found ∙ no_command_found matches is.0))
