-- What a session has.
use Rattle.std.specs.Prelude.{ℕ, List, []}
use Rattle.edit_record.specs.Lists.Journal.{JournalEntry}
use Rattle.tf_session.specs.declared.session.Session.{Session}

-- a text, and the records of its journal, the oldest first
pub record SessionContents : Type 0 where
  pub text : List ℕ
  pub records : List JournalEntry

abbrev pub contents_of : Session → SessionContents
contents_of s = record { text = s.text.items; records = s.journal }

abbrev pub text_of : Session → List ℕ
text_of s = s.text.items

-- the records of its journal, the oldest first
abbrev pub records_of : Session → List JournalEntry
records_of s = s.journal

abbrev pub with_records : List ℕ → List JournalEntry → SessionContents
with_records text records = record { text = text; records = records }

abbrev pub without_records : List ℕ → SessionContents
without_records text = record { text = text; records = [] }
