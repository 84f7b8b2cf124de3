-- There is no action, or no memory for the FILEs, or they are not accepted; else there is a task.
use Rattle.std.proofs.Common.{◌≡◌, Err, inl, inr, refl, rules}
use Rattle.tf_cli.specs.declared.exits.Exit.TheVariants.{Memory}
use Rattle.tf_cli.specs.Options.{file_count_of}
use Rattle.tf_cli.proofs.Accepting.{accepted, not_accepted}
use Rattle.tf_cli.proofs.tasks.task_of_subcommand.Goals as goal

pub returns-in_err-action-clause-fault : goal.returns-in_err-action-clause-fault
returns-in_err-action-clause-fault c =
    let exit = c.in_err-action.field-0.0 in
    let answer : c.from_residual.result ≡ Err exit = search rules in
    rw answer (inl c.in_err-action.ensures.fault)

pub returns-in_err-files-clause-fault : goal.returns-in_err-files-clause-fault
returns-in_err-files-clause-fault c =
    let answer : c.from_residual-in_err-files.result ≡ Err Memory = search rules in
    rw answer (inr (inl refl))

pub returns-clause-task : goal.returns-clause-task
returns-clause-task c = (
  c.in_ok-action.ensures.action,
  c.in_ok-files.ensures,
  accepted (file_count_of c.args.subcommand) c.info.result.file_count c.in_ok-files.files.items c.deref.result.now c.accepts.result
      c.info.ensures.file_count c.deref.ensures.value (c.accepts.ensures.several, c.accepts.ensures.one) c.if-not-accepts.false,
  c.is_given.ensures,
)

pub returns-then-not-accepts-clause-fault : goal.returns-then-not-accepts-clause-fault
returns-then-not-accepts-clause-fault c =
    inr (inr (
      c.in_ok-action.action,
      c.in_ok-action.ensures.action,
      c.in_ok-files.files.items,
      c.in_ok-files.ensures,
      not_accepted (file_count_of c.args.subcommand) c.info.result.file_count c.in_ok-files.files.items c.deref.result.now c.accepts.result
          c.info.ensures.file_count c.deref.ensures.value (c.accepts.ensures.several, c.accepts.ensures.one) c.if-not-accepts.true,
      c.usage_error.ensures,
    ))
