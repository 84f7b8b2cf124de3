-- The command that has the name, if there is one.
use Rattle.std.proofs.Common.{◌≡◌, Some, None, refl, inl, inr}
use Rattle.std.proofs.lemmas.Result.{IfOk-weaker, IfErr-weaker}
use Rattle.tf_cli.proofs.tasks.task_of_name.Goals as goal

pub returns-in-Some-clause-task : goal.returns-in-Some-clause-task
returns-in-Some-clause-task c =
    let subcommand = c.in-Some.subcommand in
    let named = (c.in-Some.ensures subcommand).0 refl in
    IfOk-weaker c.task_of_subcommand.result _ _ (λ task is. (subcommand, named, is)) c.task_of_subcommand.ensures.task

pub returns-in-Some-clause-fault : goal.returns-in-Some-clause-fault
returns-in-Some-clause-fault c =
    let subcommand = c.in-Some.subcommand in
    let named = (c.in-Some.ensures subcommand).0 refl in
    IfErr-weaker c.task_of_subcommand.result _ _ (λ exit is. inl (subcommand, named, is)) c.task_of_subcommand.ensures.fault

pub returns-in-None-clause-fault : goal.returns-in-None-clause-fault
returns-in-None-clause-fault c =
    inr (
      λ subcommand named. let some : None ≡ Some subcommand = (c.in-None.ensures subcommand).1 named in cc,
      c.usage_error.ensures,
    )
