use Rattle.std.proofs.Common.{◌≡◌, ◌++◌, take}
use Rattle.std.specs.List.{flat_map}
use Rattle.edit_record.specs.Text.{edit_text}
use Rattle.edit_record.proofs.encoder.write_record.Given as goal

abbrev pub invariant-loop-edit : goal.invariant-loop-edit
invariant-loop-edit l = l.out.items ≡ l.initial.out.items ++ flat_map edit_text (take l.edit-index l.edit-items)
