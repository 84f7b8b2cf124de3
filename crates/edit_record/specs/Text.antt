-- The text of a journal: how this project writes a journal down, in version 2, and what it still
-- reads, in version 1.
use Rattle.std.specs.Prelude.{ℕ, ◌⊎◌, List}
use Rattle.edit_record.specs.Lists.Journal.{JournalEntry}
pub use Rattle.edit_record.specs.CurrentText.{space, newline, max_number, number_text, edit_head, edit_text}
pub use Rattle.edit_record.specs.CurrentText.{NumbersFit, list_head, list_text, word_text, record_head}
pub use Rattle.edit_record.specs.CurrentText.{record_text, journal_text, IsCurrentText}
pub use Rattle.edit_record.specs.OldText.{OldRecord, steps, old_transforms, step_text, old_record_head}
pub use Rattle.edit_record.specs.OldText.{old_record_text, MigratesTo, MigrateAllTo, IsOldText}

-- This is the text of the journal with these records. All of them are of one version.
abbrev pub IsJournalText : List ℕ → List JournalEntry → Type 0
IsJournalText text rs = IsCurrentText text rs ⊎ IsOldText text rs
