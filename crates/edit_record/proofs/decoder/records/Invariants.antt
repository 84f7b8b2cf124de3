use Rattle.std.proofs.Common.{length}
use Rattle.edit_record.proofs.Allocating.{UnreadOrAllocates}
use Rattle.edit_record.proofs.Journals.{Begins}
use Rattle.edit_record.specs.Inner.ParseResults.{StartsWith}
use Rattle.edit_record.proofs.decoder.records.Given as goal

abbrev pub invariant-loop-rest : goal.invariant-loop-rest
invariant-loop-rest l = record { begins : Begins l.old l.text l.journal l.rest; begun : UnreadOrAllocates l.text l.rest; read : StartsWith l.old l.text l.journal l.rest }

abbrev pub decreases-loop-rest : goal.decreases-loop-rest
decreases-loop-rest l = length l.rest
