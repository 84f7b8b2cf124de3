-- What `decode` returns.
use Rattle.std.specs.Prelude.{◌≡◌, ℕ, zero, suc, ◌-◌, ◌<◌, ◌≤◌, ◌⊎◌, List, ◌++◌, length, drop, Bool, true}
use Rattle.std.specs.Prelude.{false, codes, Result, Ok, Err}
use Rattle.edit_record.specs.declared.lists.edits.TheConstants.{MAX_TEXT}
use Rattle.edit_record.specs.declared.lists.record.Word.{Word}
use Rattle.edit_record.specs.declared.version_1.TheConstants.{MAX_STEPS}
use Rattle.edit_record.specs.Lists.Pieces.{EditEntry}
use Rattle.edit_record.specs.Lists.Journal.{JournalEntry}
use Rattle.edit_record.specs.Text.{max_number, NumbersFit, list_head, record_head, old_record_head, edit_text}
use Rattle.edit_record.specs.Text.{IsCurrentText, IsOldText, IsJournalText}
use Rattle.edit_record.specs.Parsing.{record_at}
use Rattle.edit_record.specs.OldParsing.{OldRecordError}
use Rattle.edit_record.specs.declared.fault.FaultKind.{FaultKind}
use Rattle.edit_record.specs.declared.fault.FaultKind.TheVariants as kinds
use Rattle.edit_record.specs.declared.fault.TextError.{TextError}
use Rattle.edit_record.specs.declared.fault.RecordFault.{RecordFault}
use Rattle.edit_record.specs.declared.fault.RecordFault.TheVariants as faults

-- `next` follows the head of a list of n edits of texts of length `old_len`: the text of its first
-- edit, or, if n is 0, the mark after the list. An empty list is valid if `old_len` is within the
-- limit.
abbrev pub FollowsHead : ℕ → ℕ → List ℕ → List ℕ → Type 0
FollowsHead old_len zero mark next = (next ≡ mark) × (old_len ≤ MAX_TEXT)
FollowsHead old_len (suc n) mark next = (e : EditEntry) × (next ≡ edit_text e) × NumbersFit e

-- The text begins with the head of a list of edits, whose numbers are within the limit, and with
-- the whole of what follows the head.
pub record ReachesEdit (mark text : List ℕ) : Type 0 where
  pub old_len : ℕ
  pub count : ℕ
  pub old_len_fits : old_len ≤ max_number
  pub count_fits : count ≤ max_number
  pub next : List ℕ
  pub next_is : FollowsHead old_len count mark next
  pub rest : List ℕ
  pub is : text ≡ list_head old_len count ++ (next ++ rest)

-- the text begins with the head of a record, and reaches the first edit of its list
pub record ReachesFirstEdit (text : List ℕ) : Type 0 where
  pub word : Word
  pub list : List ℕ
  pub is : text ≡ record_head word ++ list
  pub reaches : ReachesEdit (codes "end\n") list

-- the mark that follows the first of n steps
abbrev pub mark_after : ℕ → List ℕ
mark_after (suc (suc n)) = codes "step "
mark_after n = codes "end\n"

-- the text begins with the head of a record of version 1, and reaches the first edit of its first
-- step
pub record OldReachesFirstEdit (text : List ℕ) : Type 0 where
  pub word : Word
  pub steps : ℕ
  pub has_steps : 0 < steps
  pub steps_within_limit : steps ≤ MAX_STEPS
  pub list : List ℕ
  pub is : text ≡ old_record_head word steps ++ (codes "step " ++ list)
  pub reaches : ReachesEdit (mark_after steps) list

-- `decode` can run out of memory on this text: it reaches the end of the first edit, or of an empty
-- list. Before that it allocates nothing.
abbrev pub DecodeMayAllocate : List ℕ → Type 0
DecodeMayAllocate text = ReachesFirstEdit text ⊎ OldReachesFirstEdit text

-- the error of a kind at a place
abbrev pub fault_at : FaultKind → ℕ → RecordFault
fault_at kinds.Head at = faults.BadHead at
fault_at kinds.Number at = faults.BadNumber at
fault_at kinds.CutShort at = faults.CutShort at
fault_at kinds.Edits at = faults.BadEdits at
fault_at kinds.End at = faults.BadEnd at
fault_at kinds.Steps at = faults.BadSteps at

-- the error of a text of this length
abbrev pub fault_in : ℕ → TextError → RecordFault
fault_in len e = fault_at e.kind (len - e.left)

-- the error of what follows some records, which is no record
abbrev pub RecordError : Bool → List ℕ → TextError → Type 0
RecordError false t error = record_at t ≡ Err error
RecordError true t error = OldRecordError t error

-- the text of these records, in version 1, if `old`, or in version 2
abbrev pub IsTextOf : Bool → List ℕ → List JournalEntry → Type 0
IsTextOf false text records = IsCurrentText text records
IsTextOf true text records = IsOldText text records

-- a text is read as one of version 1 if it begins so
pub record IsVersion (old : Bool) (text : List ℕ) : Type 0 where
  pub is_old : old ≡ true → text ≡ codes "tfrec 1" ++ drop 7 text
  pub if_old : (rest : List ℕ) → text ≡ codes "tfrec 1" ++ rest → old ≡ true

-- The first error of a text: it begins with some records of its version, and what follows them is
-- no record, for this reason.
pub record IsFirstError (text : List ℕ) (error : TextError) : Type 0 where
  pub old : Bool
  pub version : IsVersion old text
  pub done : List ℕ
  pub records : List JournalEntry
  pub is_done : IsTextOf old done records
  pub rest : List ℕ
  pub is : text ≡ done ++ rest
  pub error_is : RecordError old rest error

-- this is the text of no journal, and its first error is this one
abbrev pub IsDecodeError : List ℕ → RecordFault → Type 0
IsDecodeError text fault =
    ((rs : List JournalEntry) → IsJournalText text rs → ⊥)
    × ((error : TextError) × (fault ≡ fault_in (length text) error) × IsFirstError text error)

-- the journal whose text this is, or why it is the text of none; or memory ran out
abbrev pub IsDecodeResult : List ℕ → Result (List JournalEntry) RecordFault → Type 0
IsDecodeResult text (Ok rs) = IsJournalText text rs
IsDecodeResult text (Err faults.Memory) = DecodeMayAllocate text
IsDecodeResult text (Err fault) = IsDecodeError text fault
