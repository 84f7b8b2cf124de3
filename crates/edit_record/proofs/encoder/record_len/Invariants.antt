use Rattle.std.proofs.Common.{◌≡◌, ◌+◌, ◌-◌, ◌^◌, length, take, min}
use Rattle.std.specs.List.{flat_map}
use Rattle.edit_record.specs.Text.{edit_text}
use Rattle.edit_record.proofs.encoder.record_len.Given as goal

abbrev pub invariant-loop-edit : goal.invariant-loop-edit
invariant-loop-edit l = l.len ≡ min (l.initial.len + length (flat_map edit_text (take l.edit-index l.edit-items))) (2 ^ 64 - 1)
