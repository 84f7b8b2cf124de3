-- Its name is that of the row, and its id.
use Rattle.std.proofs.Common.{◌∙◌, ◌≡◌, ℕ, List, Some, ap}
use Rattle.clap.specs.Walk.{Rule, rule_of}
use Rattle.tf_cli.specs.Parsing.{named_rule}
use Rattle.tf_cli.proofs.Building.{global_of}
use Rattle.tf_cli.proofs.clap_commands.named_argument.Goals as goal

abbrev long_rule : List ℕ → Rule → Rule
long_rule name rule = record rule { long = Some name }

pub returns : goal.returns
returns c =
    let name = c.args.info.name.now in
    let long : rule_of c.long.result ≡ named_rule name = ap rule_of c.long.ensures ∙ ap (long_rule name) c.new.ensures.rule in
    (ap rule_of c.help.ensures ∙ long, ap global_of c.help.ensures ∙ (ap global_of c.long.ensures ∙ c.new.ensures.optional.1))
