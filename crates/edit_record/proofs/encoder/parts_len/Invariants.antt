use Rattle.std.proofs.Common.{◌≡◌, ◌-◌, ◌^◌, length, take, min}
use Rattle.std.specs.List.{flat_map}
use Rattle.edit_record.specs.Inner.PartText.{part_text}
use Rattle.edit_record.proofs.encoder.parts_len.Given as goal

abbrev pub invariant-loop-part : goal.invariant-loop-part
invariant-loop-part l = l.len ≡ min (length (flat_map part_text (take l.part-index l.parts))) (2 ^ 64 - 1)
