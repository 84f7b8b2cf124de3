-- One more option, if the command has it.
use Rattle.tf_cli.proofs.Building.{next_flag}
use Rattle.tf_cli.proofs.clap_commands.option_arguments.Goals as goal

pub loop-flag-preserved : goal.loop-flag-preserved
loop-flag-preserved c =
    next_flag c.args.subcommand c.args.flags.now c.loop-flag.flag-index _ c.loop-flag.all.items c.in_ok-extended.extended.items
    c.loop-flag-test.true c.loop-flag.invariant c.in_ok-extended.ensures
