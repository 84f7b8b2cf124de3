-- The files up to here are done or held; of them those are left that are held, and the others are
-- reported.
use Rattle.std.proofs.Common.{◌≡◌, ◌+◌, length, take, vec_len}
use Rattle.tf_program.specs.Inner.Entries.{IsWaitingIn, progress}
use Rattle.tf_program.specs.Printing.{console_of}
use Rattle.tf_program.specs.Tasks.{outcome_of_files}
use Rattle.tf_program.proofs.Running.{Ran}
use Rattle.tf_program.proofs.run.run_task.Given as goal

abbrev pub invariant-loop-name : goal.invariant-loop-name
invariant-loop-name g l = record {
  left : l.batch.outcome.left + l.name-index ≡ length l.name-items + vec_len l.batch.entries;
  waiting : IsWaitingIn g.S.Store.spot l.batch (g.S.Store.known l.store);
  ran : Ran l.task.action l.task.locate (take l.name-index l.name-items)
      (record { outcome = outcome_of_files (length l.task.files.items); console = console_of g.I.Read.remaining g.O.Write.contents g.F.Write.contents l.fn.streams; files = g.S.Store.known l.fn.store })
      l.batch (progress l.batch (console_of g.I.Read.remaining g.O.Write.contents g.F.Write.contents l.streams) (g.S.Store.known l.store));
}
