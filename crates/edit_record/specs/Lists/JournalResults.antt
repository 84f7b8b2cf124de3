-- What applying and undoing a journal returns for a text, by its records and the pieces of texts.
use Rattle.std.specs.Prelude.{◌≡◌, ℕ, List, [], ◌∷◌, ◌++◌, Option, None, Some, Result, Ok, Err}
use Rattle.std.specs.Global.{Vec}
use Rattle.edit_record.specs.declared.lists.change.Refused.{Refused}
use Rattle.edit_record.specs.declared.lists.change.Refused.TheVariants.{Length, Differs, Memory}
use Rattle.edit_record.specs.declared.lists.direction.Direction.{Direction}
use Rattle.edit_record.specs.declared.lists.direction.Direction.TheVariants.{Forward, Backward}
use Rattle.edit_record.specs.Lists.ChangeResults.{IsChangeResult, HasExpectedLen}
use Rattle.edit_record.specs.Lists.Journal.{JournalEntry, journal_transforms}

-- The input of a record: the records before it made it of t, or, backward, undoing those after it
-- on t gives it.
abbrev pub IsInputOf : Direction → List JournalEntry → List JournalEntry → List ℕ → List ℕ → Type 0
IsInputOf Forward before after t input = journal_transforms before t input
IsInputOf Backward before after t input = journal_transforms after input t

-- one of the records refuses the text that it is given, and this is why
pub record IsFirstRefusal (direction : Direction) (rs : List JournalEntry) (t : List ℕ)
    (why : Refused) : Type 0 where
  pub before : List JournalEntry
  pub item : JournalEntry
  pub after : List JournalEntry
  pub records_are : rs ≡ before ++ item ∷ after
  pub input : List ℕ
  pub is_input : IsInputOf direction before after t input
  pub refuses : IsChangeResult direction item.edits input (Err why)

-- the text on the other side, or else why the first record that refuses does so
abbrev pub IsJournalResult : Direction → List JournalEntry → List ℕ → Result (List ℕ) Refused
    → Type 0
IsJournalResult Forward rs t (Ok u) = journal_transforms rs t u
IsJournalResult Backward rs u (Ok t) = journal_transforms rs t u
IsJournalResult direction rs t (Err why) = IsFirstRefusal direction rs t why

-- the record that works first
abbrev pub first_record : Direction → List JournalEntry → Option JournalEntry
first_record Forward [] = None
first_record Forward (r ∷ rs) = Some r
first_record Backward [] = None
first_record Backward (r ∷ []) = Some r
first_record Backward (r ∷ s ∷ rs) = first_record Backward (s ∷ rs)

-- memory can run out only for a text of the length that the first record to work expects
abbrev pub JournalMayAllocate : Direction → List JournalEntry → List ℕ → Type 0
JournalMayAllocate direction rs t =
    (r : JournalEntry) → first_record direction rs ≡ Some r → HasExpectedLen direction r.edits t

-- what a call on a journal returned, memory included
abbrev pub IsJournalCallResult : Direction → List JournalEntry → List ℕ → Result (Vec ℕ) Refused
    → Type 0
IsJournalCallResult direction rs t (Ok v) = IsJournalResult direction rs t (Ok v.items)
IsJournalCallResult direction rs t (Err (Length expected found)) =
    IsJournalResult direction rs t (Err (Length expected found))
IsJournalCallResult direction rs t (Err (Differs step edit)) =
    IsJournalResult direction rs t (Err (Differs step edit))
IsJournalCallResult direction rs t (Err Memory) = JournalMayAllocate direction rs t
