-- The commands are added one after another.
use Rattle.std.proofs.Common.{◌≡◌}
use Rattle.std.proofs.lemmas.Result.{IfOk-weaker}
use Rattle.clap.specs.Simple.{app_of}
use Rattle.tf_cli.specs.Parsing.{empty_program, program_app, with_command}
use Rattle.tf_cli.specs.declared.options.Subcommand.{Subcommand}
use Rattle.tf_cli.proofs.Building.{command_added}
use Rattle.tf_cli.proofs.clap_commands.program_command.Goals as goal

pub returns : goal.returns
unfolding program_app
returns c =
    let fmt_app = with_command Subcommand.Fmt empty_program in
    let lint_app = with_command Subcommand.Lint fmt_app in
    let fix_app = with_command Subcommand.Fix lint_app in
    let fmt : app_of c.in_ok-with_fmt.with_fmt ≡ fmt_app =
    command_added Subcommand.Fmt c.empty_program-empty.result c.in_ok-with_fmt.with_fmt c.clap_command-fmt.result empty_program
    c.empty_program-empty.ensures c.clap_command-fmt.ensures c.in_ok-with_fmt.ensures in
    let lint : app_of c.in_ok-with_lint.with_lint ≡ lint_app =
    command_added Subcommand.Lint c.in_ok-with_fmt.with_fmt c.in_ok-with_lint.with_lint c.clap_command-lint.result fmt_app
    fmt c.clap_command-lint.ensures c.in_ok-with_lint.ensures in
    let fix : app_of c.in_ok-with_fix.with_fix ≡ fix_app =
    command_added Subcommand.Fix c.in_ok-with_lint.with_lint c.in_ok-with_fix.with_fix c.clap_command-fix.result lint_app
    lint c.clap_command-fix.ensures c.in_ok-with_fix.ensures in
    IfOk-weaker c.add_command-4.result _ _
    (λ program added. command_added Subcommand.Revert c.in_ok-with_fix.with_fix program c.clap_command-revert.result fix_app
    fix c.clap_command-revert.ensures added)
    c.add_command-4.ensures
