-- What the journal of a session says, in terms of the stack of whole texts.
use Rattle.std.specs.Prelude.{◌≡◌, ℕ, Bool, true, false, List, [], ◌∷◌, ◌++◌, Ok, Err}
use Rattle.edit_record.specs.declared.lists.record.Word.{Word}
use Rattle.edit_record.specs.Lists.ChangeResults.{IsChangeResult, HasExpectedLen}
use Rattle.edit_record.specs.declared.lists.direction.Direction.TheVariants.{Backward}
use Rattle.edit_record.specs.Lists.Journal.{JournalEntry, record_transforms}
use Rattle.tf_session.specs.declared.command.Command.{Command}
use Rattle.tf_session.specs.declared.command.Command.TheVariants.{Fmt, Fix, Revert, Take}
use Rattle.tf_session.specs.declared.command.Done.{Done}
use Rattle.tf_session.specs.declared.command.Fault.{Fault}
use Rattle.tf_session.specs.declared.command.Fault.TheVariants.{NoRecord, Refused, Memory}
use Rattle.tf_lint.specs.Steps.{Rewrite, Fixes, texts_differ}
use Rattle.tf_session.specs.Rewrites.{Rewrites, RefusesText}
use Rattle.tf_session.specs.Machine.{StackEntry, done}
use Rattle.tf_session.specs.RemovingRecord.{RemovesRecord, RefusesTake}
use Rattle.tf_session.specs.Session.{SessionContents, with_records, without_records}

-- the word that the record of a command has; revert and take have no record
abbrev pub HasWord : Command → Word → Type 0
HasWord Fmt word = word ≡ Word.Fmt
HasWord (Fix rules) word = word ≡ Word.Fix
HasWord Revert word = ⊥
HasWord (Take n) word = ⊥

-- the record of a command that made this of a text: the command's word, the edits of what was made,
-- and it turns the text into the new one
pub record IsRecordOf (command : Command) (text : List ℕ) (made : Rewrite) (r : JournalEntry)
    : Type 0 where
  pub word : HasWord command r.word
  pub edits : r.edits ≡ made.edits
  pub transforms : record_transforms r text made.text

-- There is one record for each two neighbors, the oldest first: that of the command that made the
-- upper of the lower. Neighbors differ.
abbrev pub IsJournalOfStack : List JournalEntry → List ℕ → List StackEntry → Type 0
IsJournalOfStack records top [] = records ≡ []
IsJournalOfStack records top (under ∷ rest) =
    (earlier : List JournalEntry) × (r : JournalEntry) × (records ≡ earlier ++ r ∷ [])
    × (made : Rewrite) × Rewrites under.command under.text (Ok made) × (top ≡ made.text)
    × IsRecordOf under.command under.text made r
    × (texts_differ under.text top ≡ true) × IsJournalOfStack earlier under.text rest

-- ---- One command over any session, its journal from outside too: what the session has before and
-- after.

-- the record of a command that made this of a text is added, or nothing
abbrev pub AddsRecordOf : Bool → Command → List ℕ → Rewrite → List JournalEntry
    → List JournalEntry → Type 0
AddsRecordOf true command text made js ks =
    (r : JournalEntry) × (ks ≡ js ++ r ∷ []) × IsRecordOf command text made r
AddsRecordOf false command text made js ks = ks ≡ js

-- The new text is what was made. If it differs, its record is added.
abbrev pub ReplacesText : Command → Rewrite → SessionContents → Done → SessionContents → Type 0
ReplacesText command made old d new =
    (new.text ≡ made.text) × (d ≡ done (texts_differ old.text made.text) made.fixed made.left)
    × AddsRecordOf (texts_differ old.text made.text) command old.text made old.records new.records

-- u is the one text that the record turns into t
abbrev pub IsUniqueOld : JournalEntry → List ℕ → List ℕ → Type 0
IsUniqueOld r u t = record_transforms r u t × ((v : List ℕ) → record_transforms r v t → v ≡ u)

-- the last record is undone and removed
abbrev pub RevertsLast : SessionContents → Done → SessionContents → Type 0
RevertsLast old d new =
    (r : JournalEntry) × (old.records ≡ new.records ++ r ∷ []) × IsUniqueOld r new.text old.text
    × (d ≡ done (texts_differ new.text old.text) 0 0)

-- what a fmt, a fix or a revert that succeeds does, whatever the edits of a fix are
abbrev pub ChangesContents : Command → SessionContents → Done → SessionContents → Type 0
ChangesContents Fmt old d new =
    (made : Rewrite) × Rewrites Fmt old.text (Ok made) × ReplacesText Fmt made old d new
ChangesContents (Fix rules) old d new =
    (made : Rewrite) × Rewrites (Fix rules) old.text (Ok made)
    × ReplacesText (Fix rules) made old d new
ChangesContents Revert old d new = RevertsLast old d new
ChangesContents (Take n) old d new = ⊥

-- what a command that succeeds does; the edits of a fix are those of its steps
abbrev pub DoesStep : Command → SessionContents → Done → SessionContents → Type 0
DoesStep (Take n) old d new = RemovesRecord n old d new
DoesStep (Fix rules) old d new =
    (made : Rewrite) × Fixes rules old.text made × ReplacesText (Fix rules) made old d new
DoesStep command old d new = ChangesContents command old d new

-- what a command makes of a text that has no record before it, whatever it returns and records
abbrev pub StepsTo : Command → List ℕ → List ℕ → Type 0
StepsTo command text new =
    (d : Done) × (records : List JournalEntry)
    × DoesStep command (without_records text) d (with_records new records)

-- this is the last record
abbrev pub IsLast : List JournalEntry → JournalEntry → Type 0
IsLast js r = (earlier : List JournalEntry) × (js ≡ earlier ++ r ∷ [])

-- Why a revert is refused: there is no record; or the edits of the last record can't be undone in
-- the text, for this reason; or memory ran out, which can only be for a text of the length that
-- these edits make.
abbrev pub RefusesRevert : SessionContents → Fault → Type 0
RefusesRevert contents NoRecord = contents.records ≡ []
RefusesRevert contents (Refused refused) =
    (r : JournalEntry) × IsLast contents.records r
    × IsChangeResult Backward r.edits contents.text (Err refused)
RefusesRevert contents Memory =
    (r : JournalEntry) × IsLast contents.records r × HasExpectedLen Backward r.edits contents.text
RefusesRevert contents _ = ⊥

-- why a revert is refused, memory aside: there is no record, or there is no text that the last one
-- turns into this one
abbrev pub CannotRevert : SessionContents → Fault → Type 0
CannotRevert contents NoRecord = contents.records ≡ []
CannotRevert contents (Refused refused) =
    (r : JournalEntry) × IsLast contents.records r
    × ((u : List ℕ) → ¬ (record_transforms r u contents.text))
CannotRevert contents _ = ⊥

-- why a fmt, a fix or a revert is refused, memory aside
abbrev pub RefusesContents : Command → SessionContents → Fault → Type 0
RefusesContents Fmt contents fault = Rewrites Fmt contents.text (Err fault)
RefusesContents (Fix rules) contents fault = Rewrites (Fix rules) contents.text (Err fault)
RefusesContents Revert contents fault = CannotRevert contents fault
RefusesContents (Take n) contents fault = ⊥

-- why a command is refused
abbrev pub RefusesStep : Command → SessionContents → Fault → Type 0
RefusesStep Fmt contents fault = RefusesText Fmt contents.text fault
RefusesStep (Fix rules) contents fault = RefusesText (Fix rules) contents.text fault
RefusesStep Revert contents fault = RefusesRevert contents fault
RefusesStep (Take n) contents fault = RefusesTake n contents fault

-- why a command refuses a text that has no record before it
abbrev pub RefusesAlone : Command → List ℕ → Fault → Type 0
RefusesAlone command text fault = RefusesStep command (without_records text) fault
