-- FILE follows the options.
use Rattle.std.proofs.Common.{◌≡◌, [], ◌∷◌, ◌++◌, List, rules, subst, sym}
use Rattle.clap.specs.declared.builder.arg.Arg.{Arg}
use Rattle.tf_cli.specs.Options.{all_flags, file_count_of}
use Rattle.tf_cli.specs.Parsing.{command_rules, file_rule, flag_rules}
use Rattle.tf_cli.specs.Inner.ClapValues.{AreArguments}
use Rattle.tf_cli.specs.declared.options.Flag.{Flag}
use Rattle.tf_cli.proofs.Building.{argument_pushed}
use Rattle.tf_cli.proofs.clap_commands.arguments.Goals as goal

pub returns : goal.returns
returns c =
    let subcommand = c.args.subcommand in
    let flags : c.as_slice.result.now ≡ all_flags = search rules in
    let options = subst (λ (fs : List Flag). AreArguments (flag_rules subcommand fs) c.in_ok-all.all.items) flags c.in_ok-all.ensures in
    let pushed : c.push.new.self.items ≡ c.in_ok-all.all.items ++ c.file_argument-file.result ∷ [] = search rules in
    subst (λ (arguments : List Arg). AreArguments (command_rules subcommand) arguments) (sym pushed)
    (argument_pushed (flag_rules subcommand all_flags) c.in_ok-all.all.items (file_rule (file_count_of subcommand)) c.file_argument-file.result
    options c.file_argument-file.ensures)
