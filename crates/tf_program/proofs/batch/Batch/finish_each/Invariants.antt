-- The entries up to here are saved and reported, and what the batch holds stays.
use Rattle.std.proofs.Common.{take, drop}
use Rattle.tf_program.specs.Inner.Entries.{KeepsBatch, progress}
use Rattle.tf_program.specs.Printing.{console_of}
use Rattle.tf_program.proofs.Reporting.{FinishesSome}
use Rattle.tf_program.proofs.batch.Batch.finish_each.Given as goal

abbrev pub invariant-loop-entry : goal.invariant-loop-entry
invariant-loop-entry g l = record {
  same : KeepsBatch l.entry-index l.fn.self l.self;
  finishes : FinishesSome g.S.Store.spot l.fn.self.action l.fn.self.locate l.entries (take l.entry-index l.entries) (drop l.entry-index l.entries)
      (progress l.fn.self (console_of g.I.Read.remaining g.O.Write.contents g.F.Write.contents l.fn.streams) (g.S.Store.known l.fn.store))
      (progress l.self (console_of g.I.Read.remaining g.O.Write.contents g.F.Write.contents l.streams) (g.S.Store.known l.store));
}
