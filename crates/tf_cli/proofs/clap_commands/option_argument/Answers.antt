-- Its name and its value, one after another.
use Rattle.std.proofs.Common.{◌∙◌, ap}
use Rattle.tf_cli.specs.Options.{flag_value}
use Rattle.tf_cli.specs.Parsing.{named_rule, with_flag_value}
use Rattle.tf_cli.proofs.clap_commands.option_argument.Goals as goal

pub returns : goal.returns
returns c =
    let flag = c.args.flag in
    let named = c.named_argument-named.ensures.0 ∙ ap named_rule c.info.ensures.name in
    (c.with_flag_value.ensures.0 ∙ ap (with_flag_value (flag_value flag)) named, c.with_flag_value.ensures.1 ∙ c.named_argument-named.ensures.1)
