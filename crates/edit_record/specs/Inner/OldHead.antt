-- The code's head of an old record, as the parser on lists has it.
use Rattle.edit_record.specs.OldParsing.{OldHead}
use Rattle.edit_record.specs.declared.version_1.OldHead.{OldHead as Head}

abbrev pub head_view : Head → OldHead
head_view h = record { word = h.word; first = h.first; others = h.others }
