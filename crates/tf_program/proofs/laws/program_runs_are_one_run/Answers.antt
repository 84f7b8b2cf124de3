-- By the laws of commands on a file.
use Rattle.tf_program.proofs.ProgramRuns.{program_runs}
use Rattle.tf_program.proofs.laws.program_runs_are_one_run.Goals as goal

pub returns : goal.returns
returns c = program_runs c.invocations_step_files.ensures c.invocations_are_stack_run.ensures c.invocations_are_history_run.ensures
