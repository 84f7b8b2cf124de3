-- The command that clap has found, if there is one.
use Rattle.std.proofs.Common.{sym, inl, inr}
use Rattle.std.proofs.lemmas.Result.{IfOk-weaker, IfErr-weaker}
use Rattle.tf_cli.specs.Inner.ClapValues.{rows_in}
use Rattle.tf_cli.proofs.tasks.task_of.Goals as goal

pub returns-in-Some-clause-task : goal.returns-in-Some-clause-task
returns-in-Some-clause-task c =
    let found = c.in-Some.found in
    IfOk-weaker c.task_of_name.result _ _
    (λ task is. (found.0.now, rows_in found.1.now, (sym c.in-Some.ensures.name, sym c.in-Some.ensures.rows), is)) c.task_of_name.ensures.task

pub returns-in-Some-clause-fault : goal.returns-in-Some-clause-fault
returns-in-Some-clause-fault c =
    let found = c.in-Some.found in
    IfErr-weaker c.task_of_name.result _ _
    (λ exit is. inl (found.0.now, rows_in found.1.now, (sym c.in-Some.ensures.name, sym c.in-Some.ensures.rows), is)) c.task_of_name.ensures.fault

pub returns-in-None-clause-fault : goal.returns-in-None-clause-fault
returns-in-None-clause-fault c = inr (sym c.in-None.ensures.name, c.usage_error.ensures)
