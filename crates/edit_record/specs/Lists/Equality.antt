-- When edits, lists, records and journals are equal: what `==` returns.
use Rattle.std.specs.Prelude.{List, ◌==◌, Bool, true, false, ◌&&◌}
use Rattle.std.specs.Cmp.Lexicographic.{pointwise}
use Rattle.edit_record.specs.declared.lists.record.Word.{Word}
use Rattle.edit_record.specs.declared.lists.record.Word.TheVariants.{Fmt, Fix}
use Rattle.edit_record.specs.Lists.Pieces.{EditEntry, EditList}
use Rattle.edit_record.specs.Lists.Journal.{JournalEntry}

-- the same bytes at the same place
abbrev pub is_same_edit : EditEntry → EditEntry → Bool
is_same_edit a b =
    ((a.at == b.at) && pointwise ◌==◌ a.removed b.removed) && pointwise ◌==◌ a.added b.added

-- the same edits, of texts of one length
abbrev pub is_same_list : EditList → EditList → Bool
is_same_list a b = (a.old_len == b.old_len) && pointwise is_same_edit a.entries b.entries

abbrev pub is_same_word : Word → Word → Bool
is_same_word Fmt Fmt = true
is_same_word Fmt Fix = false
is_same_word Fix Fmt = false
is_same_word Fix Fix = true

-- the same edits of one command
abbrev pub is_same_record : JournalEntry → JournalEntry → Bool
is_same_record a b = is_same_word a.word b.word && is_same_list a.edits b.edits

-- the same records in one order
abbrev pub is_same_journal : List JournalEntry → List JournalEntry → Bool
is_same_journal = pointwise is_same_record
