use Rattle.std.proofs.Common.{List, drop}
use Rattle.edit_record.specs.Lists.Journal.{JournalEntry}
use Rattle.edit_record.specs.Inner.KnownText.{SplitsKnown}
use Rattle.edit_record.proofs.encoder.write_records.Given as goal

abbrev pub invariant-loop-rec : goal.invariant-loop-rec
invariant-loop-rec l = (all : List JournalEntry) → SplitsKnown all l.initial.out.items l.records → SplitsKnown all l.out.items (drop l.rec-index l.records)
