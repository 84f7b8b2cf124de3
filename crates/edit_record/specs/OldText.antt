-- The text of a journal in version 1, in which a record was a row of steps. It is still read, and
-- becomes a journal of today.
use Rattle.std.specs.Prelude.{◌≡◌, ℕ, ◌≤◌, List, [], ◌∷◌, ◌++◌, length, codes}
use Rattle.std.specs.List.{flat_map, AllByRecursion}
use Rattle.edit_record.specs.declared.lists.record.Word.{Word}
use Rattle.edit_record.specs.declared.version_1.TheConstants.{MAX_STEPS}
use Rattle.edit_record.specs.Lists.Pieces.{EditList, Transforms}
use Rattle.edit_record.specs.Lists.Validity.{IsValidList}
use Rattle.edit_record.specs.Lists.Sequence.{TransformsInOrder}
use Rattle.edit_record.specs.Lists.Journal.{JournalEntry}
use Rattle.edit_record.specs.Squashes.SquashLists.{SquashAll}
use Rattle.edit_record.specs.CurrentText.{newline, number_text, list_text, word_text}

-- a record of version 1: the steps of one command, at least one, each a list of edits that follows
-- the one before
pub record OldRecord : Type 0 where
  pub word : Word
  pub first : EditList
  pub others : List EditList

abbrev pub steps : OldRecord → List EditList
steps r = r.first ∷ r.others

-- it turns texts by its steps one after another
abbrev pub old_transforms : OldRecord → List ℕ → List ℕ → Type 0
old_transforms old = TransformsInOrder Transforms (steps old)

abbrev pub step_text : EditList → List ℕ
step_text e = codes "step " ++ list_text e

-- the head of a record: its mark, its command, and how many steps it has
abbrev pub old_record_head : Word → ℕ → List ℕ
old_record_head word count = codes "tfrec 1 " ++ word_text word ++ number_text newline count

-- a record: its head, its steps in order, and its end
abbrev pub old_record_text : OldRecord → List ℕ
old_record_text r =
    old_record_head r.word (length (steps r)) ++ flat_map step_text (steps r) ++ codes "end\n"

-- A record of version 1 becomes one of today: it has `MAX_STEPS` steps at most, and squashed from
-- the first on they are the one list of edits of that record, which has the same command.
pub record MigratesTo (old : OldRecord) (r : JournalEntry) : Type 0 where
  pub made : AllByRecursion IsValidList (steps old)
  pub within_limit : length (steps old) ≤ MAX_STEPS
  pub word : old.word ≡ r.word
  pub squashed : SquashAll old.first old.others r.edits

-- each old record becomes the record at its place
abbrev pub MigrateAllTo : List OldRecord → List JournalEntry → Type 0
MigrateAllTo [] [] = Unit {0}
MigrateAllTo [] (r ∷ rs) = ⊥
MigrateAllTo (old ∷ olds) [] = ⊥
MigrateAllTo (old ∷ olds) (r ∷ rs) = MigratesTo old r × MigrateAllTo olds rs

-- this is the text, in version 1, of records that become these
pub record IsOldText (text : List ℕ) (rs : List JournalEntry) : Type 0 where
  pub olds : List OldRecord
  pub migrated : MigrateAllTo olds rs
  pub is : text ≡ flat_map old_record_text olds
