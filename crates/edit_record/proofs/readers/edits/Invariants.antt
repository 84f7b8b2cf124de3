use Rattle.std.specs.Prelude.{vec_len, vec_capacity}
use Rattle.edit_record.specs.Inner.ListCapacity.{HasFewSpare}
use Rattle.edit_record.proofs.ReadEdits.{HasRead}
use Rattle.edit_record.proofs.readers.edits.Given as goal

abbrev pub invariant-loop : goal.invariant-loop
invariant-loop l = HasRead l.count l.text l.counter l.rest l.edits.items l.sums × HasFewSpare (vec_len l.edits) (vec_capacity l.edits)
