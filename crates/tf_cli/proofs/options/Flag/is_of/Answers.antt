-- The commands of the option's row.
use Rattle.std.proofs.Common.{◌∙◌, ap}
use Rattle.tf_cli.specs.Options.{is_among}
use Rattle.tf_cli.specs.declared.options.Commands.{Commands}
use Rattle.tf_cli.proofs.options.Flag.is_of.Goals as goal

pub returns : goal.returns
returns c =
    c.include.ensures ∙ ap (λ (commands : Commands). is_among commands c.args.subcommand) c.info.ensures.commands
