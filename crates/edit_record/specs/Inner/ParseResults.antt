-- What the readers of the code return.
use Rattle.std.specs.Prelude.{◌≡◌, ℕ, List, [], ◌∷◌, ◌++◌, Result, Ok, Err, Bool, true, false, ⊤}
use Rattle.std.specs.Prelude.{codes}
use Rattle.edit_record.specs.Lists.Pieces.{EditEntry, EditList}
use Rattle.edit_record.specs.Lists.Journal.{JournalEntry}
use Rattle.edit_record.specs.Squashes.Squash.{IsSquash, SquashMayAllocate}
use Rattle.edit_record.specs.Squashes.SquashLists.{SquashAll}
use Rattle.edit_record.specs.Text.{record_text, OldRecord, old_record_text, MigratesTo, IsJournalText}
use Rattle.edit_record.specs.Lists.Validity.{IsValidList}
use Rattle.edit_record.specs.Decoding.{DecodeMayAllocate, IsTextOf, IsFirstError}
use Rattle.edit_record.specs.declared.fault.TextError.{TextError}
use Rattle.edit_record.specs.Parsing.{◌>>=◌, expect, edit_at}
use Rattle.edit_record.specs.OldParsing.{old_head_at, steps_at}
use Rattle.edit_record.specs.declared.fault.FaultKind.TheVariants.{End}
use Rattle.edit_record.specs.declared.fault.DecodeStop.{DecodeStop}
use Rattle.edit_record.specs.declared.fault.DecodeStop.TheVariants as stops

-- what a reader that takes no memory returned, seen by view, is what is read
abbrev pub IsParsed : {X Y : Type 0} → (X → Y) → Result X TextError → Result Y TextError → Type 0
IsParsed view (Ok x) read = read ≡ Ok (view x)
IsParsed view (Err e) read = read ≡ Err e

-- a reader stopped: memory ran out, which this text takes, or this is the error
abbrev pub IsStop : {Y : Type 0} → Bool → DecodeStop → Result Y TextError → Type 0
IsStop takes stops.Memory read = takes ≡ true
IsStop takes (stops.Bad e) read = read ≡ Err e

-- what a reader that takes memory returned, seen by view, is what is read
abbrev pub IsRead : {X Y : Type 0} → (X → Y) → Bool → Result X DecodeStop → Result Y TextError
    → Type 0
IsRead view takes (Ok x) read = read ≡ Ok (view x)
IsRead view takes (Err e) read = IsStop takes e read

-- an edit is read from the text, of which these bytes are left, and pushed to the edits
abbrev pub IsPushed : List EditEntry → List EditEntry → List ℕ → List ℕ → Type 0
IsPushed old new t rest =
    (x : EditEntry) × (new ≡ old ++ x ∷ []) × (edit_at t ≡ Ok (x, rest))

-- a reader of what is at the start of a text by a relation stopped
abbrev pub IsStopFor : {Y : Type 0} → Bool → DecodeStop → (Y → List ℕ → Type 0) → Type 0
IsStopFor takes stops.Memory R = takes ≡ true
IsStopFor {Y = Y} takes (stops.Bad e) R = (y : Y) (rest : List ℕ) → R y rest → ⊥

abbrev pub ParsesAs : {X Y : Type 0} → (X → Y) → (X → List ℕ) → Bool → Result X DecodeStop
    → (Y → List ℕ → Type 0) → Type 0
ParsesAs view rest takes (Ok x) R = R (view x) (rest x)
ParsesAs view rest takes (Err e) R = IsStopFor takes e R

-- two lists squashed into one, or why they are not; memory may run out where `squash` allocates
abbrev pub IsSquashOrStop : EditList → EditList → Result EditList DecodeStop → Type 0
IsSquashOrStop a b (Ok c) = IsSquash a b c
IsSquashOrStop a b (Err stops.Memory) = SquashMayAllocate a b
IsSquashOrStop a b (Err (stops.Bad e)) = (c : EditList) → IsSquash a b c → ⊥

-- the text begins with a record: of version 2, or of version 1, which it migrates from
abbrev pub RecordAt : Bool → List ℕ → JournalEntry → List ℕ → Type 0
RecordAt false t r rest = (t ≡ record_text r ++ rest) × IsValidList r.edits
RecordAt true t r rest = (old : OldRecord) × (t ≡ old_record_text old ++ rest) × MigratesTo old r

abbrev pub RecordsAt : Bool → List ℕ → List JournalEntry → Type 0
RecordsAt old t [] = t ≡ []
RecordsAt old t (r ∷ rs) = (rest : List ℕ) × RecordAt old t r rest × RecordsAt old rest rs

-- the text begins with the text of these records
abbrev pub StartsWith : Bool → List ℕ → List JournalEntry → List ℕ → Type 0
StartsWith old text records rest =
    (done : List ℕ) × IsTextOf old done records × (text ≡ done ++ rest)

-- a reader that stopped at an error returned the right one
abbrev pub HasError : DecodeStop → (TextError → Type 0) → Type 0
HasError stops.Memory Right = ⊤
HasError (stops.Bad e) Right = Right e

-- the journal of the whole text, or why there is none
abbrev pub IsReadResult : List ℕ → Result (List JournalEntry) DecodeStop → Type 0
IsReadResult text (Ok rs) = IsJournalText text rs
IsReadResult text (Err stops.Memory) = DecodeMayAllocate text
IsReadResult text (Err (stops.Bad e)) =
    ((rs : List JournalEntry) → IsJournalText text rs → ⊥) × IsFirstError text e

-- the old record at the start of a text
unfoldable pub old_record_at : List ℕ → Result (OldRecord × List ℕ) TextError
old_record_at t = do
  head ← old_head_at t
  others ← steps_at head.0.others head.1
  rest ← expect (codes "end\n") End others.1
  Ok (record { word = head.0.word; first = head.0.first; others = others.0 }, rest)

-- the text begins with an old record, whose steps squash to this one
abbrev pub OldRecordAt : List ℕ → JournalEntry → List ℕ → Type 0
OldRecordAt t r rest = (old : OldRecord) × (old_record_at t ≡ Ok (old, rest)) × (old.word ≡ r.word)
    × SquashAll old.first old.others r.edits
