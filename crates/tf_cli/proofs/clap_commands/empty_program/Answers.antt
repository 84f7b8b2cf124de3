-- It has a version, and wants a command; texts for help are nothing that clap reads arguments by.
use Rattle.std.proofs.Common.{◌∙◌, ◌≡◌, true, codes, ap}
use Rattle.clap.specs.Simple.{App, app_of, app_of_fields, new_app}
use Rattle.tf_cli.proofs.clap_commands.empty_program.Goals as goal

abbrev with_version : App → App
with_version app = record app { top = record app.top { has_version = true } }

abbrev with_required : App → App
with_required app = record app { top = record app.top { subcommand_required = true } }

pub returns : goal.returns
returns c =
    let about : app_of c.about.result ≡ new_app (codes "tfk") = ap app_of_fields c.about.ensures ∙ c.new.ensures.app in
    let after_help : app_of c.after_help.result ≡ new_app (codes "tfk") = ap app_of_fields c.after_help.ensures ∙ about in
    let version : app_of c.version.result ≡ with_version (new_app (codes "tfk")) = ap app_of_fields c.version.ensures ∙ ap with_version after_help in
    ap app_of_fields c.subcommand_required.ensures ∙ ap with_required version
