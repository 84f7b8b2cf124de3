-- What clap has read is what it reads of these arguments by the program's table; or it has stopped.
use Rattle.std.proofs.Common.{◌≡◌, ◌∙◌, ℕ, List, Bor, Err, map, ap, ap₂, inl, inr, refl, rules, sym}
use Rattle.std.proofs.lemmas.Result.{IfOk-weaker, IfErr-weaker}
use Rattle.clap.specs.Faults.{fault_of, is_simple_and_free}
use Rattle.clap.specs.Simple.{is_simple, subcommand_of, subcommand_rows_of}
use Rattle.clap.specs.Values.{kind_of}
use Rattle.tf_cli.specs.Parsing.{program_app}
use Rattle.tf_cli.specs.Reading.{HasNoError, arguments_of}
use Rattle.tf_cli.specs.declared.exits.Exit.TheVariants.{Memory}
use Rattle.tf_cli.proofs.Reading.{among_same, fault_found, program_is_free, program_is_simple, task_found}
use Rattle.tf_cli.proofs.command_line.CommandLine.task.Goals as goal

pub returns-in_err-command-clause-fault : goal.returns-in_err-command-clause-fault
returns-in_err-command-clause-fault c =
    let answer : c.from_residual.result ≡ Err Memory = search rules in
    rw answer (inr (inl refl))

pub returns-in-Ok-clause-task : goal.returns-in-Ok-clause-task
returns-in-Ok-clause-task c =
    let program = c.in_ok-command.ensures in
    let args : map (λ (arg : Bor (List ℕ)). arg.now) c.as_slice.result.now ≡ arguments_of c.args.self.now =
    ap (map (λ (arg : Bor (List ℕ)). arg.now)) c.as_slice.ensures.value in
    let met = c.in-Ok.ensures.matches (ap is_simple program ∙ program_is_simple) in
    let found : subcommand_rows_of c.in-Ok.matches ≡ subcommand_of program_app (arguments_of c.args.self.now) =
    met.1 ∙ ap₂ subcommand_of program args in
    let no_error : HasNoError (arguments_of c.args.self.now) =
    sym (ap₂ fault_of program args) ∙ c.in-Ok.ensures.kinds (ap is_simple_and_free program ∙ program_is_free) in
    IfOk-weaker c.task_of.result _ _ (λ task is. task_found c.in-Ok.matches (arguments_of c.args.self.now) task found no_error is) c.task_of.ensures.task

pub returns-in-Ok-clause-fault : goal.returns-in-Ok-clause-fault
returns-in-Ok-clause-fault c =
    let program = c.in_ok-command.ensures in
    let args : map (λ (arg : Bor (List ℕ)). arg.now) c.as_slice.result.now ≡ arguments_of c.args.self.now =
    ap (map (λ (arg : Bor (List ℕ)). arg.now)) c.as_slice.ensures.value in
    let met = c.in-Ok.ensures.matches (ap is_simple program ∙ program_is_simple) in
    let found : subcommand_rows_of c.in-Ok.matches ≡ subcommand_of program_app (arguments_of c.args.self.now) =
    met.1 ∙ ap₂ subcommand_of program args in
    let no_error : HasNoError (arguments_of c.args.self.now) =
    sym (ap₂ fault_of program args) ∙ c.in-Ok.ensures.kinds (ap is_simple_and_free program ∙ program_is_free) in
    IfErr-weaker c.task_of.result _ _ (λ exit is. fault_found c.in-Ok.matches (arguments_of c.args.self.now) exit found no_error is) c.task_of.ensures.fault

pub returns-in-Err-clause-fault : goal.returns-in-Err-clause-fault
returns-in-Err-clause-fault c =
    let program = c.in_ok-command.ensures in
    let args : map (λ (arg : Bor (List ℕ)). arg.now) c.as_slice.result.now ≡ arguments_of c.args.self.now =
    ap (map (λ (arg : Bor (List ℕ)). arg.now)) c.as_slice.ensures.value in
    inr (
    elim (c.in-Err.ensures.kinds (ap is_simple_and_free program ∙ program_is_free)) [
      | inl memory ↦ inl (c.exit_for.ensures.memory memory)
      | inr among ↦ inr (
        kind_of c.in-Err.error,
        among_same (kind_of c.in-Err.error) _ (fault_of program_app (arguments_of c.args.self.now)) among (ap₂ fault_of program args),
        c.exit_for.ensures.kind,
      )
    ])
