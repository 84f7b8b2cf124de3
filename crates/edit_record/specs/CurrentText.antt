-- The text of a journal in version 2, which is what is written, and what version 1 shares with it.
-- The format is this project's own, and is defined here.
use Rattle.std.specs.Prelude.{◌≡◌, ℕ, ◌≤◌, List, [], ◌∷◌, ◌++◌, length, codes, decimal}
use Rattle.std.specs.List.{flat_map, AllByRecursion}
use Rattle.edit_record.specs.declared.readers.TheConstants.{MAX_NUMBER}
use Rattle.edit_record.specs.declared.lists.record.Word.{Word}
use Rattle.edit_record.specs.declared.lists.record.Word.TheVariants.{Fmt, Fix}
use Rattle.edit_record.specs.Lists.Pieces.{EditEntry, EditList}
use Rattle.edit_record.specs.Lists.Validity.{IsValidList}
use Rattle.edit_record.specs.Lists.Journal.{JournalEntry}

-- ---- what both versions have

-- the byte after a word, and after a number that is not the last of its line
abbrev pub space : ℕ
space = 32

-- the byte that ends each line
abbrev pub newline : ℕ
newline = 10

-- the greatest number that is read: no list has more edits than twice the most bytes of a text
abbrev pub max_number : ℕ
max_number = MAX_NUMBER

-- a number in decimal, without leading zeros, and the byte that ends it
abbrev pub number_text : ℕ → ℕ → List ℕ
number_text stop n = decimal n ++ stop ∷ []

-- the head of an edit: its place, how many bytes it removes, and how many it adds
abbrev pub edit_head : ℕ → ℕ → ℕ → List ℕ
edit_head at removed added =
    number_text space at ++ number_text space removed ++ number_text newline added

-- an edit: its head, the bytes that it removes, those that it adds, and the end of the line
abbrev pub edit_text : EditEntry → List ℕ
edit_text e =
    edit_head e.at (length e.removed) (length e.added) ++ e.removed ++ e.added ++ newline ∷ []

-- the numbers of an edit are within the limit
pub record NumbersFit (e : EditEntry) : Type 0 where
  pub at : e.at ≤ max_number
  pub removed : length e.removed ≤ max_number
  pub added : length e.added ≤ max_number

-- the head of a list of edits: the length of the texts that they apply to, and how many they are
abbrev pub list_head : ℕ → ℕ → List ℕ
list_head old_len count = number_text space old_len ++ number_text newline count

-- a list of edits: its head, and the edits in order
abbrev pub list_text : EditList → List ℕ
list_text e = list_head e.old_len (length e.entries) ++ flat_map edit_text e.entries

-- the command that made a record
abbrev pub word_text : Word → List ℕ
word_text Fmt = codes "fmt "
word_text Fix = codes "fix "

-- ---- version 2

-- the head of a record: its mark, and its command
abbrev pub record_head : Word → List ℕ
record_head word = codes "tfrec 2 " ++ word_text word

-- a record: its head, its edits, and its end
abbrev pub record_text : JournalEntry → List ℕ
record_text r = record_head r.word ++ list_text r.edits ++ codes "end\n"

-- a journal: its records one after another, the oldest first, and nothing else
abbrev pub journal_text : List JournalEntry → List ℕ
journal_text = flat_map record_text

-- this is the text, in version 2, of the journal with these records, all of which `Record` can hold
pub record IsCurrentText (text : List ℕ) (rs : List JournalEntry) : Type 0 where
  pub made : AllByRecursion (λ r. IsValidList r.edits) rs
  pub is : text ≡ journal_text rs
