-- The text of a part that the code writes.
use Rattle.std.specs.Prelude.{ℕ, List}
use Rattle.edit_record.specs.Text.{number_text}
use Rattle.edit_record.specs.declared.encoder.RecordPart.{RecordPart}
use Rattle.edit_record.specs.declared.encoder.RecordPart.TheVariants.{Bytes, Number}

abbrev pub part_text : RecordPart → List ℕ
part_text (Bytes bytes) = bytes.now
part_text (Number n stop) = number_text stop n
