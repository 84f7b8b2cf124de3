-- Texts for help are nothing that clap reads arguments by; then the arguments are added in turn.
use Rattle.std.proofs.Common.{◌∙◌, ◌≡◌, false, ap}
use Rattle.clap.specs.Simple.{App, app_of, app_of_fields, new_app}
use Rattle.clap.specs.declared.builder.command.Command.TheViews.{out-Command as fields_of}
use Rattle.tf_cli.specs.Parsing.{with_rules}
use Rattle.tf_cli.proofs.Building.{arguments_added, globals_in}
use Rattle.tf_cli.proofs.clap_commands.new_command.Goals as goal

pub returns : goal.returns
returns c =
    let empty = c.after_help-empty.result in
    let about : app_of c.about.result ≡ new_app c.args.name.now =
    ap app_of_fields c.about.ensures ∙ c.new.ensures.app in
    let app : app_of empty ≡ new_app c.args.name.now = ap app_of_fields c.after_help-empty.ensures ∙ about in
    let local : globals_in (fields_of empty) ≡ false =
    ap globals_in c.after_help-empty.ensures ∙ (ap globals_in c.about.ensures ∙ c.new.ensures.local) in
    λ rules are.
    let added = arguments_added rules c.args.arguments.items empty c.in_ok-command.command are
    c.in_ok-command.ensures local in
    (added.0 ∙ ap (λ (a : App). with_rules a rules) app, added.1)
