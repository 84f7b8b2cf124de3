-- The entries up to here are reported, and what the batch holds stays.
use Rattle.std.proofs.Common.{◌≡◌, Option, length, take, drop}
use Rattle.std.specs.Vec.Iter.{into_iter_items, into_iter_len}
use Rattle.tf_files.specs.Stores.{Files, Spot, SavesEach}
use Rattle.tf_program.specs.Inner.Entries.{KeepsBatch, AreWaiting, files_of, progress}
use Rattle.tf_program.specs.Printing.{console_of}
use Rattle.tf_program.proofs.Reporting.{ReportsSome}
use Rattle.tf_program.proofs.batch.Batch.report_all.Given as goal

abbrev pub invariant-loop-entry : goal.invariant-loop-entry
invariant-loop-entry g l = record {
  same : KeepsBatch l.entry-index l.fn.self l.self;
  rest : into_iter_len l.rest ≡ length (into_iter_items l.rest);
  does : (spot : g.row.P.Denot → Spot) (old new : Option Files) → AreWaiting spot l.fn.self.action l.fn.self.locate old l.entries → SavesEach spot (files_of l.entries) l.fn.results.items old new
      → ReportsSome spot l.fn.self.action l.fn.self.locate (take l.entry-index l.entries) (drop l.entry-index l.entries) (into_iter_items l.rest)
      (progress l.fn.self (console_of g.I.Read.remaining g.O.Write.contents g.F.Write.contents l.fn.streams) old)
      (λ (files : Option Files). progress l.self (console_of g.I.Read.remaining g.O.Write.contents g.F.Write.contents l.streams) files) new;
}
