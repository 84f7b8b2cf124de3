-- Records and journals.
use Rattle.std.specs.Prelude.{ℕ, List, map, Result}
use Rattle.edit_record.specs.declared.lists.record.Word.{Word}
use Rattle.edit_record.specs.declared.lists.change.Refused.{Refused}
use Rattle.edit_record.specs.declared.lists.direction.Direction.TheVariants.{Forward, Backward}
use Rattle.edit_record.specs.Lists.Pieces.{EditList, Transforms}
use Rattle.edit_record.specs.Lists.Sequence.{TransformsInOrder, forward_all, backward_all}
use Rattle.edit_record.specs.Lists.Apply.{apply_edits}

-- a record's value
pub record JournalEntry : Type 0 where
  pub word : Word
  pub edits : EditList

-- the edits of records, and their commands
abbrev pub edits_of : List JournalEntry → List EditList
edits_of rs = map (λ r. r.edits) rs

abbrev pub words_of : List JournalEntry → List Word
words_of rs = map (λ r. r.word) rs

-- a record turns texts by its edits
abbrev pub record_transforms : JournalEntry → List ℕ → List ℕ → Type 0
record_transforms r t u = Transforms r.edits t u

-- a record applies and undoes its edits; so its one step is step 0
abbrev pub record_forward : JournalEntry → List ℕ → Result (List ℕ) Refused
record_forward r t = apply_edits Forward r.edits t

abbrev pub record_backward : JournalEntry → List ℕ → Result (List ℕ) Refused
record_backward r u = apply_edits Backward r.edits u

-- a journal turns texts by its records one after another
abbrev pub journal_transforms : List JournalEntry → List ℕ → List ℕ → Type 0
journal_transforms = TransformsInOrder record_transforms

-- a journal applies its records from the first on, and undoes them from the last; a refusal numbers
-- the steps within the record that refuses
abbrev pub journal_forward : List JournalEntry → List ℕ → Result (List ℕ) Refused
journal_forward = forward_all record_forward

abbrev pub journal_backward : List JournalEntry → List ℕ → Result (List ℕ) Refused
journal_backward = backward_all record_backward
