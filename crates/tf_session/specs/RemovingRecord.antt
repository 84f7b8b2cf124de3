-- A take: reverting one record of any journal out of order, from outside too. What it means to
-- remove one record from among others is this project's own, and is defined here and in swaps of
-- edit_record.
use Rattle.std.specs.Prelude.{◌≡◌, ◌≢◌, ◌+◌, ◌<◌, ◌⊎◌, ℕ, List, ◌++◌, length, Err, Option, Some, None}
use Rattle.edit_record.specs.Lists.Pieces.{EditList, Transforms}
use Rattle.edit_record.specs.Lists.ChangeResults.{IsChangeResult, HasExpectedLen}
use Rattle.edit_record.specs.Lists.Journal.{JournalEntry, edits_of, words_of}
use Rattle.edit_record.specs.declared.lists.change.Refused.{Refused}
use Rattle.edit_record.specs.declared.lists.direction.Direction.TheVariants.{Backward}
use Rattle.edit_record.specs.Swaps.MoveToEnd.{IsMovedToEnd}
use Rattle.edit_record.specs.Swaps.MoveToEndResult.{LengthMismatch, SomeMeet, SwapIsTooLong, FailsAt}
use Rattle.edit_record.specs.Swaps.MoveToEndResult.{MoveMayAllocate}
use Rattle.tf_session.specs.declared.command.Done.{Done}
use Rattle.tf_session.specs.declared.command.Fault.{Fault}
use Rattle.tf_lint.specs.Steps.{texts_differ}
use Rattle.tf_session.specs.Machine.{done}
use Rattle.tf_session.specs.NthItem.{Nth}
use Rattle.tf_session.specs.Session.{SessionContents}

-- Record n is removed. Its edits are swapped with those of each later record in turn; what these
-- become is in the journal, each with the word of its record. The new text is the only one that the
-- edits of record n, as they are after all others, turn into the old.
pub record RemovesRecord (n : ℕ) (old : SessionContents) (d : Done) (new : SessionContents)
    : Type 0 where
  pub nth : Nth n old.records
  pub new_records : List JournalEntry
  pub moved_edits : EditList
  pub is_moved : IsMovedToEnd nth.item.edits (edits_of nth.after) (edits_of new_records) moved_edits
  pub words : words_of new_records ≡ words_of nth.after
  pub transforms : Transforms moved_edits new.text old.text
  pub only : (v : List ℕ) → Transforms moved_edits v old.text → v ≡ new.text
  pub records : new.records ≡ nth.before ++ new_records
  pub done_is : d ≡ done (texts_differ new.text old.text) 0 0

-- ---- why record n is not removed

-- the edits of record n can be swapped with those of the first k records after it, and not with
-- those of the next
pub record FailsAfter (n : ℕ) (records : List JournalEntry) (k : ℕ)
    (Refuses : EditList → EditList → Type 0) : Type 0 where
  pub nth : Nth n records
  pub fails : FailsAt nth.item.edits (edits_of nth.after) k Refuses

-- The errors of a take over a history: there is none of this number; or the first record after it
-- that can't be swapped has an edit that meets one of record n; or the text without the one and
-- with the other would be too long.
abbrev pub CannotRemove : ℕ → List JournalEntry → Fault → Type 0
CannotRemove n records Fault.NoRecord = (n ≡ 0) ⊎ (length records < n)
CannotRemove n records (Fault.Blocked number) =
    (k : ℕ) × FailsAfter n records k SomeMeet × (number ≡ n + k + 1)
CannotRemove n records Fault.TooLong = (k : ℕ) × FailsAfter n records k SwapIsTooLong
CannotRemove n records _ = ⊥

-- record n can be swapped with all later records, but its edits, as they are after them, can't be
-- undone in the text
pub record UndoFails (n : ℕ) (contents : SessionContents) (refused : Refused) : Type 0 where
  pub nth : Nth n contents.records
  pub new_lists : List EditList
  pub moved_edits : EditList
  pub is_moved : IsMovedToEnd nth.item.edits (edits_of nth.after) new_lists moved_edits
  pub refuses : IsChangeResult Backward moved_edits contents.text (Err refused)

-- Memory is allocated if the next record can be swapped with record n, and to undo the edits of
-- record n as they are after all others, in a text of the length that they make.
abbrev pub TakeMayAllocate : ℕ → SessionContents → Type 0
TakeMayAllocate n contents =
    (nth : Nth n contents.records) × (MoveMayAllocate nth.item.edits nth.after
    ⊎ ((others : List EditList) × (moved_edits : EditList)
    × IsMovedToEnd nth.item.edits (edits_of nth.after) others moved_edits
    × HasExpectedLen Backward moved_edits contents.text))

-- Why record n is not removed, an error a row: there is none of this number. Or the first record
-- after it that can't be swapped has an edit that meets one of record n; or the text without the
-- one and with the other would be too long; or that record is for texts of another length. Or the
-- edits of record n can't be undone in the text. Or memory ran out.
pub data RefusesTake (n : ℕ) (contents : SessionContents) : Fault → Type 0 where
  no_record : (n ≡ 0) ⊎ (length contents.records < n) → RefusesTake n contents Fault.NoRecord
  blocked : {k : ℕ} → FailsAfter n contents.records k SomeMeet
      → RefusesTake n contents (Fault.Blocked (n + k + 1))
  too_long : {k : ℕ} → FailsAfter n contents.records k SwapIsTooLong
      → RefusesTake n contents Fault.TooLong
  lengths_differ : {k expected found : ℕ}
      → FailsAfter n contents.records k (λ a b. LengthMismatch a b expected found)
      → RefusesTake n contents (Fault.Refused (Refused.Length expected found))
  not_undone : {refused : Refused} → UndoFails n contents refused
      → RefusesTake n contents (Fault.Refused refused)
  memory : TakeMayAllocate n contents → RefusesTake n contents Fault.Memory

-- why record n can't be removed now, or nothing if it can; memory aside
abbrev pub IsTakeRefusal : ℕ → SessionContents → Option Fault → Type 0
IsTakeRefusal n contents None =
    (d : Done) × (new : SessionContents) × RemovesRecord n contents d new
IsTakeRefusal n contents (Some fault) = RefusesTake n contents fault × (fault ≢ Fault.Memory)
