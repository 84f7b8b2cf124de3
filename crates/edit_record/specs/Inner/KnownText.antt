-- What a journal keeps of the text that it was read from.
use Rattle.std.specs.Prelude.{◌≡◌, ℕ, ◌≤◌, ◌/◌, List, ◌++◌, length, take}
use Rattle.edit_record.specs.CurrentText.{IsCurrentText}
use Rattle.edit_record.specs.Lists.Journal.{JournalEntry}
use Rattle.edit_record.specs.declared.lists.known_text.TheConstants.{MOST_SPARE}

-- the text of the first `known` records is kept
pub record IsKnownText (rs : List JournalEntry) (known : ℕ) (text : List ℕ) : Type 0 where
  pub within : known ≤ length rs
  pub is : IsCurrentText text (take known rs)

-- and its memory is not much more than its length
abbrev pub IsKeptText : List JournalEntry → ℕ → List ℕ → ℕ → Type 0
IsKeptText rs known text capacity = IsKnownText rs known text × (capacity / MOST_SPARE ≤ length text)

-- records whose text is kept, and the rest of them
pub record SplitsKnown (rs : List JournalEntry) (text : List ℕ) (rest : List JournalEntry) : Type 0 where
  pub start : List JournalEntry
  pub is : IsCurrentText text start
  pub whole : rs ≡ start ++ rest
