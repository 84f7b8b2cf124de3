-- FILE is required, and has the number of values that its command takes.
use Rattle.std.proofs.Common.{◌∙◌, ◌≡◌, true, codes, ap}
use Rattle.clap.specs.Walk.{Rule, rule_of}
use Rattle.tf_cli.specs.Options.{file_count_of}
use Rattle.tf_cli.specs.Parsing.{required_rule, with_file_count}
use Rattle.tf_cli.proofs.Building.{global_of}
use Rattle.tf_cli.proofs.clap_commands.file_argument.Goals as goal

abbrev required : Rule → Rule
required rule = record rule { required = true }

pub returns : goal.returns
returns c =
    let made : rule_of c.required-argument.result ≡ required_rule (codes "FILE") =
    ap rule_of c.required-argument.ensures ∙ ap required (ap rule_of c.help.ensures ∙ c.new.ensures.rule) in
    let local = ap global_of c.required-argument.ensures ∙ (ap global_of c.help.ensures ∙ c.new.ensures.optional.1) in
    (c.with_file_count.ensures.0 ∙ ap (with_file_count (file_count_of c.args.subcommand)) made, c.with_file_count.ensures.1 ∙ local)
