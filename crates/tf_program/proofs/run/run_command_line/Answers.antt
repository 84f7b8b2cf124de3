-- What was done on the task; or what was printed of the reason why there is none.
use Rattle.std.proofs.Common.{inl, inr, refl}
use Rattle.tf_program.proofs.run.run_command_line.Goals as goal

pub returns-in-Ok : goal.returns-in-Ok
returns-in-Ok g c =
    let status = c.status.ensures in
    inl (
      c.in-Ok.task,
      c.in-Ok.ensures.task,
      (c.run_task.result, c.run_task.ensures.runs, (status.fault, status.issue, status.unformatted, status.clean)),
    )

pub returns-in-Err : goal.returns-in-Err
returns-in-Err g c = inr (c.in-Err.stop, c.in-Err.ensures.fault, c.exit_with.ensures, refl)
