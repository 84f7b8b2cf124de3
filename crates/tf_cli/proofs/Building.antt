-- Arguments of clap's, made step by step, and a list of them.
use Rattle.std.proofs.Common.{◌≡◌, ◌∙◌, ◌<◌, ◌+◌, ◌||◌, ℕ, Bool, true, false, List, [], ◌∷◌, ◌++◌, Option, Some, None, Result, Ok, Err, IfOk, IsSomeAnd, length, take, get_or, if◌then◌else◌, inl, inr, sym, ap, subst}
use Rattle.std.proofs.lemmas.List.{take_more}
use Rattle.clap.specs.Built.{AddsArg, AddsInTurn}
use Rattle.clap.specs.Simple.{App, app_of, with_rule, with_subcommand}
use Rattle.clap.specs.Walk.{Rule}
use Rattle.clap.specs.declared.builder.arg.Arg.{Arg}
use Rattle.clap.specs.declared.builder.command.Command.{Command}
use Rattle.clap.specs.declared.builder.command.Command.TheViews.{out-Command as fields_of}
use Rattle.clap.specs.declared.builder.command.Command.TheOpen.{Command-F}
use Rattle.clap.specs.declared.builder.range.ValueRange.{ValueRange}
use Rattle.clap.specs.declared.builder.value_parser.ValueParser.{ValueParser}
use Rattle.tf_cli.specs.Options.{has_flag}
use Rattle.tf_cli.specs.Parsing.{command_app, flag_rule, flag_rules, with_command, with_rules}
use Rattle.tf_cli.specs.Inner.ClapValues.{AddsCommand, AddsFlag, AreArguments, HasParser, HasRange, IsArgumentOf, IsCommand}
use Rattle.tf_cli.specs.declared.options.Flag.{Flag}
use Rattle.tf_cli.specs.declared.options.Subcommand.{Subcommand}

abbrev pub global_of : Arg → Bool
global_of argument = argument.global

-- ---- a range, and a parser

some_is : (found : Option ValueRange) (range : ValueRange) → IsSomeAnd found (λ r. r ≡ range) → found ≡ Some range
some_is None range is = absurd is
some_is (Some r) range is = ap (λ (x : ValueRange). Some x) is

pub ranged : (argument made : Arg) (range : ValueRange) → made ≡ record argument { num_vals = made.num_vals }
    → IsSomeAnd made.num_vals (λ r. r ≡ range) → HasRange range argument made
ranged argument made range same is =
    same ∙ ap (λ (o : Option ValueRange). record argument { num_vals = o }) (some_is made.num_vals range is)

pub parsed_by : (argument made : Arg) (parser given : ValueParser) → made ≡ record argument { value_parser = made.value_parser }
    → made.value_parser ≡ Some given → given ≡ parser → HasParser parser argument made
parsed_by argument made parser given same some is =
    same ∙ ap (λ (o : Option ValueParser). record argument { value_parser = o }) (some ∙ ap (λ (q : ValueParser). Some q) is)

-- ---- a list of arguments

pub argument_pushed : (rules : List Rule) (arguments : List Arg) (rule : Rule) (argument : Arg)
    → AreArguments rules arguments → IsArgumentOf rule argument → AreArguments (rules ++ rule ∷ []) (arguments ++ argument ∷ [])
argument_pushed [] [] rule argument are is = (is, tt)
argument_pushed [] (a ∷ arguments) rule argument are is = absurd are
argument_pushed (r ∷ rules) [] rule argument are is = absurd are
argument_pushed (r ∷ rules) (a ∷ arguments) rule argument are is = (are.0, argument_pushed rules arguments rule argument are.1 is)

-- a rule that is there or not, before others
then_more : (has : Bool) (rule : Rule) (before after more : List Rule) → after ≡ before ++ more
    → (if has then rule ∷ after else after) ≡ (if has then rule ∷ before else before) ++ more
then_more true rule before after more is = ap (λ (rules : List Rule). rule ∷ rules) is
then_more false rule before after more is = is

flag_more : (subcommand : Subcommand) (flags : List Flag) (flag : Flag) → has_flag subcommand flag ≡ true
    → flag_rules subcommand (flags ++ flag ∷ []) ≡ flag_rules subcommand flags ++ flag_rule flag ∷ []
flag_more subcommand [] flag has = ap (λ (b : Bool). if b then flag_rule flag ∷ [] else []) has
flag_more subcommand (f ∷ flags) flag has =
    then_more (has_flag subcommand f) (flag_rule f) (flag_rules subcommand flags) (flag_rules subcommand (flags ++ flag ∷ [])) (flag_rule flag ∷ [])
    (flag_more subcommand flags flag has)

flag_less : (subcommand : Subcommand) (flags : List Flag) (flag : Flag) → has_flag subcommand flag ≡ false
    → flag_rules subcommand (flags ++ flag ∷ []) ≡ flag_rules subcommand flags
flag_less subcommand [] flag has = ap (λ (b : Bool). if b then flag_rule flag ∷ [] else []) has
flag_less subcommand (f ∷ flags) flag has =
    ap (λ (rules : List Rule). if has_flag subcommand f then flag_rule f ∷ rules else rules) (flag_less subcommand flags flag has)

flag_added : (subcommand : Subcommand) (flags : List Flag) (flag : Flag) (old new : List Arg) → AreArguments (flag_rules subcommand flags) old
    → AddsFlag subcommand flag old new → AreArguments (flag_rules subcommand (flags ++ flag ∷ [])) new
flag_added subcommand flags flag old new are (inl without) =
    subst (λ (rules : List Rule). AreArguments rules new) (sym (flag_less subcommand flags flag without.0))
    (subst (λ (arguments : List Arg). AreArguments (flag_rules subcommand flags) arguments) (sym without.1) are)
flag_added subcommand flags flag old new are (inr has) =
    subst (λ (rules : List Rule). AreArguments rules new) (sym (flag_more subcommand flags flag has.0))
    (subst (λ (arguments : List Arg). AreArguments (flag_rules subcommand flags ++ flag_rule flag ∷ []) arguments) (sym has.3)
    (argument_pushed (flag_rules subcommand flags) old (flag_rule flag) has.1 are has.2))

pub next_flag : (subcommand : Subcommand) (flags : List Flag) (i : ℕ) (d : Flag) (old new : List Arg) → i < length flags
    → AreArguments (flag_rules subcommand (take i flags)) old → AddsFlag subcommand (get_or flags i d) old new
    → AreArguments (flag_rules subcommand (take (i + 1) flags)) new
next_flag subcommand flags i d old new below are adds =
    subst (λ (some : List Flag). AreArguments (flag_rules subcommand some) new) (sym (take_more flags i d below))
    (flag_added subcommand (take i flags) (get_or flags i d) old new are adds)

-- ---- a command, and the program

abbrev pub globals_in : Command-F Command → Bool
globals_in fields = fields.has_globals

pub arguments_added : (rules : List Rule) (arguments : List Arg) (old new : Command) → AreArguments rules arguments → AddsInTurn AddsArg old arguments new
    → globals_in (fields_of old) ≡ false → (app_of new ≡ with_rules (app_of old) rules) × (globals_in (fields_of new) ≡ false)
arguments_added [] [] old new are adds local =
    (ap (λ (c : Command). app_of c) (sym adds), ap (λ (c : Command). globals_in (fields_of c)) (sym adds) ∙ local)
arguments_added [] (a ∷ arguments) old new are adds local = absurd are
arguments_added (rule ∷ rules) [] old new are adds local = absurd are
arguments_added (rule ∷ rules) (a ∷ arguments) old new are adds local =
    let added = adds.1 in
    let still_local : globals_in (fields_of adds.0) ≡ false =
    added.globals ∙ (ap (λ (b : Bool). b || a.global) local ∙ ap (λ (b : Bool). false || b) are.0.1) in
    let one : app_of adds.0 ≡ with_rule (app_of old) rule = added.shape are.0.1 ∙ ap (λ (r : Rule). with_rule (app_of old) r) are.0.0 in
    let rest = arguments_added rules arguments adds.0 new are.1 adds.2 still_local in
    (rest.0 ∙ ap (λ (app : App). with_rules app rules) one, rest.1)

pub command_added : {E : Type 0} (subcommand : Subcommand) (program new : Command) (made : Result Command E) (app : App)
    → app_of program ≡ app → IfOk made (λ command. IsCommand (command_app subcommand) command) → AddsCommand program made new
    → app_of new ≡ with_command subcommand app
command_added subcommand program new (Ok command) app is made added =
    added.shape made.1 ∙ ap (λ (c : App). with_subcommand (app_of program) c.top) made.0
    ∙ ap (λ (p : App). with_command subcommand p) is
command_added subcommand program new (Err error) app is made added = absurd added
