-- A text and the text of its journal: what is read of two sources for them, and what is written to
-- two targets.
use Rattle.std.specs.Prelude.{◌≡◌, ◌≤◌, ◌<◌, ◌↔◌, ◌⊎◌, ℕ, Bool, true, false, List, length, Result, Err, IfOk}
use Rattle.std.specs.Prelude.{IfErr, IsErrOf, IsErrAnd}
use Rattle.std.specs.Io.KnownBytes.{Keeps}
use Rattle.edit_record.specs.Lists.Journal.{JournalEntry}
use Rattle.edit_record.specs.Text.{journal_text, IsCurrentText, IsJournalText}
use Rattle.edit_record.specs.Decoding.{IsDecodeResult}
use Rattle.edit_record.specs.declared.fault.RecordFault.{RecordFault}
use Rattle.tf_stream.specs.Streams.{Source, Target, ReadsAll, WritesBytes, Untouched}
use Rattle.tf_session.specs.declared.command.Command.{Command}
use Rattle.tf_session.specs.declared.command.Done.{Done}
use Rattle.tf_session.specs.declared.command.Fault.{Fault}
use Rattle.tf_session.specs.declared.fault.RunFault.{RunFault}
use Rattle.tf_session.specs.declared.fault.RunFault.TheVariants.{Memory, Read, Write, Endless}
use Rattle.tf_session.specs.declared.fault.SessionPart.{SessionPart}
-- the most bytes of a journal's text
pub use Rattle.tf_session.specs.declared.loader.TheConstants.{MAX_JOURNAL}
use Rattle.tf_session.specs.Faults.{run_fault_of, run_fault_of_record}
use Rattle.tf_session.specs.Streams.{ReadsText, ReadAllFault, IsReadStreamFault, IsWriteFault, is_write}
use Rattle.tf_session.specs.Records.{DoesStep, RefusesStep}
use Rattle.tf_session.specs.Session.{SessionContents}

-- ---- what is read

-- nothing was read of the source
abbrev pub NothingRead : Source → Type 0
NothingRead source = Keeps source.before source.after

-- all that the first source had is the text, and all that the second had is the text of the journal
-- with the records
abbrev pub Loads : SessionContents → Source → Source → Type 0
Loads contents text_in journal_in =
    ReadsText text_in contents.text × (bytes : List ℕ) × ReadsAll MAX_JOURNAL journal_in bytes
    × IsJournalText bytes contents.records

-- `decode` refuses these bytes, which are the text of no journal, or memory ran out
abbrev pub BadJournalFault : List ℕ → RunFault → Type 0
BadJournalFault bytes fault =
    (decoding : RecordFault) × (fault ≡ run_fault_of_record decoding)
    × IsDecodeResult bytes (Err decoding)

-- Why nothing was loaded: there is no whole text, and nothing was read for the journal; or there is
-- nothing whole for the journal; or that is the text of no journal.
abbrev pub LoadFault : RunFault → Source → Source → Type 0
LoadFault fault text_in journal_in =
    (IsReadStreamFault fault text_in × NothingRead journal_in)
    ⊎ ((text : List ℕ) × ReadsText text_in text × ReadAllFault MAX_JOURNAL fault journal_in)
    ⊎ ((text : List ℕ) × (bytes : List ℕ) × ReadsText text_in text
    × ReadsAll MAX_JOURNAL journal_in bytes × BadJournalFault bytes fault)

-- ---- what is put

-- these bytes are the text of the journal with these records, and not too long
abbrev pub IsSavedText : List JournalEntry → List ℕ → Type 0
IsSavedText records bytes = IsCurrentText bytes records × (length bytes ≤ MAX_JOURNAL)

-- It would be too long; or it would not be, and memory ran out, but never for an empty journal.
abbrev pub JournalTextFault : List JournalEntry → RunFault → Type 0
JournalTextFault records Endless = MAX_JOURNAL < length (journal_text records)
JournalTextFault records Memory = (length (journal_text records) ≤ MAX_JOURNAL) × (0 < length records)
JournalTextFault records _ = ⊥

-- to the first target went the text of the journal with the records, and to the second the text
abbrev pub Saves : SessionContents → Target → Target → Type 0
Saves contents journal_out text_out =
    (bytes : List ℕ) × IsSavedText contents.records bytes × WritesBytes journal_out bytes
    × WritesBytes text_out contents.text

-- There is no text of the journal, and nothing was put; or not all of it was put, and nothing of
-- the text; or all of it was, and not all of the text.
abbrev pub SaveFault : RunFault → SessionContents → Target → Target → Type 0
SaveFault fault contents journal_out text_out =
    (JournalTextFault contents.records fault × Untouched journal_out × Untouched text_out)
    ⊎ ((bytes : List ℕ) × IsSavedText contents.records bytes
    × IsWriteFault SessionPart.Journal fault journal_out bytes × Untouched text_out)
    ⊎ ((bytes : List ℕ) × IsSavedText contents.records bytes × WritesBytes journal_out bytes
    × IsWriteFault SessionPart.Text fault text_out contents.text)

-- a write or a flush of this part failed
abbrev pub IsWriteOf : SessionPart → RunFault → Type 0
IsWriteOf part (Write named sent) = named ≡ part
IsWriteOf part _ = ⊥

-- ---- one command between the two

-- the sources and the targets of a call
pub record Endpoints : Type 0 where
  pub text_in : Source
  pub journal_in : Source
  pub journal_out : Target
  pub text_out : Target

abbrev pub endpoints_of : Source → Source → Target → Target → Endpoints
endpoints_of text_in journal_in journal_out text_out =
    record {
      text_in = text_in;
      journal_in = journal_in;
      journal_out = journal_out;
      text_out = text_out;
    }

-- nothing was written to the targets
abbrev pub NothingWritten : Endpoints → Type 0
NothingWritten e = Untouched e.journal_out × Untouched e.text_out

-- The sources had a text and a journal; the command made this of them, and that was written to the
-- targets.
abbrev pub StreamsCommand : Command → Done → Endpoints → Type 0
StreamsCommand command d e =
    (old : SessionContents) × Loads old e.text_in e.journal_in
    × (new : SessionContents) × DoesStep command old d new × Saves new e.journal_out e.text_out

-- the command refused what was loaded
abbrev pub CommandFault : Command → RunFault → Endpoints → Type 0
CommandFault command fault e =
    (old : SessionContents) × Loads old e.text_in e.journal_in
    × (refusal : Fault) × (fault ≡ run_fault_of refusal) × RefusesStep command old refusal

-- the command was done on what was loaded, and not all that it made was written
abbrev pub ResultSaveFault : Command → RunFault → Endpoints → Type 0
ResultSaveFault command fault e =
    (old : SessionContents) × Loads old e.text_in e.journal_in
    × (d : Done) × (new : SessionContents) × DoesStep command old d new
    × SaveFault fault new e.journal_out e.text_out

-- Nothing was loaded, or the command was refused, and nothing was written; or not all that it made
-- was written.
abbrev pub JournaledStreamFault : Command → RunFault → Endpoints → Type 0
JournaledStreamFault command fault e =
    (LoadFault fault e.text_in e.journal_in × NothingWritten e)
    ⊎ (CommandFault command fault e × NothingWritten e)
    ⊎ ResultSaveFault command fault e

-- What a command from a text and its journal to both returns, and what it leaves in the targets:
-- at any error but Write as much as was there.
pub record JournaledStreamResult (command : Command) (result : Result Done RunFault)
    (e : Endpoints) : Type 0 where
  pub done : IfOk result (λ d. StreamsCommand command d e)
  pub fault : IfErr result (λ fault. JournaledStreamFault command fault e)
  pub untouched : IfErr result (λ fault. is_write fault ≡ false → NothingWritten e)

-- The error reports which streams have failed: Read one of the readers, Write the writer of its part.
pub record ReportsFailures (result : Result Done RunFault)
    (text_in journal_in journal_out text_out : Bool) : Type 0 where
  pub readers : IsErrOf result Read ↔ (text_in ≡ true) ⊎ (journal_in ≡ true)
  pub journal : IsErrAnd result (IsWriteOf SessionPart.Journal) ↔ journal_out ≡ true
  pub text : IsErrAnd result (IsWriteOf SessionPart.Text) ↔ text_out ≡ true
