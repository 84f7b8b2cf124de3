-- The arguments are those that the command line has; or memory ran out for them.
use Rattle.std.proofs.Common.{inl, inr, refl}
use Rattle.tf_cli.specs.declared.exits.Exit.TheVariants.{Memory}
use Rattle.tf_program.proofs.Running.{works_here}
use Rattle.tf_program.proofs.run.work_in.Goals as goal

pub returns-in-Ok : goal.returns-in-Ok
returns-in-Ok g c = works_here _ _ _ _ _ c.in-Ok.ensures c.run_command_line.ensures

pub returns-in-Err : goal.returns-in-Err
returns-in-Err g c = inr (Memory, inr (inl refl), c.exit_with_fault.ensures, refl)
