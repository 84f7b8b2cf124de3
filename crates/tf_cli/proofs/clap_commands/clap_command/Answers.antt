-- A new command with the arguments of its row.
use Rattle.std.proofs.Common.{ℕ, List, subst}
use Rattle.std.proofs.lemmas.Result.{IfOk-weaker}
use Rattle.clap.specs.Simple.{new_app}
use Rattle.tf_cli.specs.Parsing.{command_rules, with_rules}
use Rattle.tf_cli.specs.Inner.ClapValues.{IsCommand}
use Rattle.tf_cli.proofs.clap_commands.clap_command.Goals as goal

pub returns : goal.returns
returns c =
    let rules = command_rules c.args.subcommand in
    IfOk-weaker c.new_command.result _ _
    (λ command new. subst (λ (name : List ℕ). IsCommand (with_rules (new_app name) rules) command) c.info-info.ensures.name (new rules c.in_ok-arguments.ensures))
    c.new_command.ensures
