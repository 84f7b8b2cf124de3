use Rattle.std.proofs.Common.{◌≡◌, ◌-◌, ◌^◌, length, take, min}
use Rattle.edit_record.specs.Text.{journal_text}
use Rattle.edit_record.proofs.encoder.records_len.Given as goal

abbrev pub invariant-loop-rec : goal.invariant-loop-rec
invariant-loop-rec l = l.len ≡ min (length (journal_text (take l.rec-index l.records))) (2 ^ 64 - 1)
