-- What a command does to a file and its journal: from the bytes of both, as they were read, to what
-- is to be saved and reported. And what commands do one after another, each of which reads what the
-- one before it saved.
use Rattle.std.specs.Prelude.{◌≡◌, ◌<◌, ◌⊎◌, ℕ, Bool, true, false, List, [], ◌∷◌, ◌++◌, length, map, codes}
use Rattle.std.specs.Prelude.{Option, Some, None, Result, Ok, Err, MatchBool, if◌then◌else◌}
use Rattle.edit_record.specs.Lists.Journal.{JournalEntry}
use Rattle.edit_record.specs.Text.{journal_text, IsJournalText}
use Rattle.tf_lint.specs.Reports.{Report, report_lines}
use Rattle.tf_lint.specs.Steps.{IsReport}
use Rattle.tf_session.specs.declared.command.Command.{Command}
use Rattle.tf_session.specs.declared.command.Command.TheVariants.{Fmt, Fix, Revert, Take}
use Rattle.tf_session.specs.declared.command.Done.{Done}
use Rattle.tf_session.specs.declared.command.Fault.{Fault}
use Rattle.tf_session.specs.declared.fault.RunFault.{RunFault}
use Rattle.tf_session.specs.declared.fault.RunFault.TheVariants.{Memory, Endless}
use Rattle.tf_session.specs.declared.invocation.Effect.{Effect}
use Rattle.tf_session.specs.declared.saver.SavedTexts.{SavedTexts}
use Rattle.tf_session.specs.Faults.{run_fault_of}
use Rattle.tf_session.specs.Journals.{MAX_JOURNAL, IsSavedText, JournalTextFault, BadJournalFault}
use Rattle.tf_session.specs.Layers.{History, initial_history, top_text, records_in, IsHistory, HistoryStep}
use Rattle.tf_session.specs.Machine.{Stack, initial_stack, StackStep, IsNotTake, WithoutTake}
use Rattle.tf_session.specs.Records.{ChangesContents, RefusesContents, DoesStep, RefusesStep}
use Rattle.tf_session.specs.Records.{IsJournalOfStack}
use Rattle.tf_session.specs.Runs.{RunBy}
use Rattle.tf_session.specs.Session.{SessionContents, with_records}

-- ---- one command on a file

-- a file's text, and the text of its journal; where there is no journal, that is empty
pub record FileContents : Type 0 where
  pub text : List ℕ
  pub journal : List ℕ

abbrev pub file_of : List ℕ → List ℕ → FileContents
file_of text journal = record { text = text; journal = journal }

abbrev pub without_journal : List ℕ → FileContents
without_journal text = file_of text []

abbrev pub contents_after : FileContents → Option SavedTexts → FileContents
contents_after old None = old
contents_after old (Some saved) = file_of saved.text.items saved.journal.items

-- This is a file with this text, whose journal is the text of these records, as it is saved. A file
-- without a journal is one without records.
abbrev pub IsFileOf : SessionContents → FileContents → Type 0
IsFileOf contents file = (file.text ≡ contents.text) × IsSavedText contents.records file.journal

-- Why a command returns an error: memory ran out; or it succeeds, and the text of the new journal
-- would be too long; or it is refused.
abbrev pub StepFileFault : Command → SessionContents → RunFault → Type 0
StepFileFault command old fault =
    (fault ≡ Memory)
    ⊎ ((fault ≡ Endless) × (d : Done) × (new : SessionContents) × ChangesContents command old d new
    × (MAX_JOURNAL < length (journal_text new.records)))
    ⊎ ((refusal : Fault) × (fault ≡ run_fault_of refusal) × RefusesContents command old refusal)

-- A fmt, a fix or a revert is given on a file without a journal, or with one that was saved: what it
-- returns, and the file after it. At an error that is the file before it.
abbrev pub StepsFile : Command → FileContents → Result Done RunFault → FileContents → Type 0
StepsFile command old (Ok d) new =
    (contents : SessionContents) → IsNotTake command → IsFileOf contents old
    → (after : SessionContents) × ChangesContents command contents d after × IsFileOf after new
StepsFile command old (Err fault) new =
    (new ≡ old) × ((contents : SessionContents) → IsNotTake command → IsFileOf contents old
    → StepFileFault command contents fault)

-- ---- commands one after another are one run

-- memory ran out, or the new journal would be too long
abbrev pub is_limit : RunFault → Bool
is_limit Memory = true
is_limit Endless = true
is_limit _ = false

-- One command, by a step of a machine: it ended at a limit and changed nothing, or it has the
-- machine's reply.
abbrev pub StepOrLimit : {State : Type 0} → (Command → State → Result Done Fault → State → Type 0)
    → Command → State → Result Done RunFault → State → Type 0
StepOrLimit Step command old (Ok d) new = Step command old (Ok d) new
StepOrLimit Step command old (Err fault) new =
    MatchBool (is_limit fault) (new ≡ old)
    ((refusal : Fault) × (fault ≡ run_fault_of refusal) × Step command old (Err refusal) new)

-- The commands are a run of a machine, of which this is the step, but for those that ended at a
-- limit: its text is the file's, and the text of the file's journal is that of its records, of the
-- current version and within the limit, so that the next command can read it.
pub record AreOneRun {State : Type 0} (Step : Command → State → Result Done Fault → State → Type 0)
    (top : State → List ℕ) (HasRecords : State → List JournalEntry → Type 0) (first : State)
    (commands : List Command) (results : List (Result Done RunFault)) (end : FileContents)
    : Type 0 where
  pub state : State
  pub run : RunBy (StepOrLimit Step) first commands results state
  pub text : end.text ≡ top state
  pub records : List JournalEntry
  pub journal : IsSavedText records end.journal
  pub records_are : HasRecords state records

-- the records of the file's journal are those of the stack
abbrev pub HasStackRecords : Stack → List JournalEntry → Type 0
HasStackRecords s records = IsJournalOfStack records s.top s.below

-- a run of the machine of whole texts
abbrev pub AreStackRun : Stack → List Command → List (Result Done RunFault) → FileContents → Type 0
AreStackRun = AreOneRun StackStep (λ s. s.top) HasStackRecords

-- Fmt, fix and revert on a file that has no journal, one after another, each on what the one before
-- it left, are one run of the machine of whole texts.
abbrev pub InvocationsAreStackRun : Type 0
InvocationsAreStackRun =
    (text : List ℕ) (commands : List Command) (results : List (Result Done RunFault))
    (end : FileContents) → WithoutTake commands
    → RunBy StepsFile (without_journal text) commands results end
    → AreStackRun (initial_stack text) commands results end

-- ---- one command, a take too, over any bytes: what a session has before it and after it

-- a command leaves text and records as they were
abbrev pub KeepsContents : SessionContents → SessionContents → Type 0
KeepsContents old new = (new.text ≡ old.text) × (new.records ≡ old.records)

-- what is to be saved: the new text and the text of the new journal; nothing, if both are as they
-- were
abbrev pub AreSaved : SessionContents → SessionContents → Option SavedTexts → Type 0
AreSaved old new None = KeepsContents old new
AreSaved old new (Some saved) =
    ¬ (KeepsContents old new) × (saved.text.items ≡ new.text)
    × IsSavedText new.records saved.journal.items

-- What is reported of a command that left this text in a file of this name: the name, if fmt
-- changed the text; after a fix the line of each issue that is left.
abbrev pub AreReportLines : Command → List ℕ → Done → List ℕ → List ℕ → Type 0
AreReportLines Fmt name d text lines = lines ≡ (if d.changed then name ++ codes "\n" else [])
AreReportLines (Fix rules) name d text lines =
    (reported : List Report) × IsReport rules text reported × (lines ≡ report_lines name reported)
AreReportLines Revert name d text lines = lines ≡ []
AreReportLines (Take n) name d text lines = lines ≡ []

-- The journal's bytes are the text of some records, and the command does its step on the text with
-- these.
pub record HasEffect (command : Command) (name text journal : List ℕ) (effect : Effect) : Type 0 where
  pub records : List JournalEntry
  pub is_journal : IsJournalText journal records
  pub new : SessionContents
  pub does : DoesStep command (with_records text records) effect.done new
  pub saved : AreSaved (with_records text records) new effect.saved
  pub lines : AreReportLines command name effect.done new.text effect.lines.items

-- ---- why a command has no effect

-- memory is allocated for what is reported: a fmt changed the text, or a fix left issues
abbrev pub LinesMayAllocate : Command → Done → Type 0
LinesMayAllocate Fmt d = d.changed ≡ true
LinesMayAllocate (Fix rules) d = 0 < d.left
LinesMayAllocate Revert d = ⊥
LinesMayAllocate (Take n) d = ⊥

-- the command refuses text and records; or it succeeds, and memory runs out for what is reported
abbrev pub StepOrLinesFault : Command → SessionContents → RunFault → Type 0
StepOrLinesFault command old fault =
    ((refusal : Fault) × (fault ≡ run_fault_of refusal) × RefusesStep command old refusal)
    ⊎ ((fault ≡ Memory) × (d : Done) × (new : SessionContents)
    × DoesStep command old d new × LinesMayAllocate command d)

-- the command succeeds and changes text or records, and there is no text of the new journal, since
-- it would be too long, or memory ran out
abbrev pub NewJournalFault : Command → SessionContents → RunFault → Type 0
NewJournalFault command old fault =
    (d : Done) × (new : SessionContents) × DoesStep command old d new × ¬ (KeepsContents old new)
    × JournalTextFault new.records fault

-- Why nothing is to be saved or reported, in this order.
abbrev pub HasNoEffect : Command → List ℕ → List ℕ → RunFault → Type 0
HasNoEffect command text journal fault =
    BadJournalFault journal fault
    ⊎ ((records : List JournalEntry) × IsJournalText journal records
    × StepOrLinesFault command (with_records text records) fault)
    ⊎ ((records : List JournalEntry) × IsJournalText journal records
    × NewJournalFault command (with_records text records) fault)

-- Any command is given on any file: what it returns, and the file after it, with what was saved.
abbrev pub Invokes : Command → FileContents → Result Done RunFault → FileContents → Type 0
Invokes command old (Ok d) new =
    (name : List ℕ) × (effect : Effect) × HasEffect command name old.text old.journal effect
    × (d ≡ effect.done) × (new ≡ contents_after old effect.saved)
Invokes command old (Err fault) new = HasNoEffect command old.text old.journal fault × (new ≡ old)

-- Commands are given one after another, each on the file as the one before it left it.
abbrev pub InvokesAll : FileContents → List Command → List (Result Done RunFault) → FileContents → Type 0
InvokesAll = RunBy Invokes

-- What is so of any file is so of one whose journal was saved.
abbrev pub InvocationsStepFiles : Type 0
InvocationsStepFiles =
    (old new : FileContents) (commands : List Command) (results : List (Result Done RunFault))
    → InvokesAll old commands results new → RunBy StepsFile old commands results new

-- ---- with takes they are one run of the machine that keeps the edits

abbrev pub HasHistoryRecords : History → List JournalEntry → Type 0
HasHistoryRecords h records = (records ≡ records_in h.layers) × IsHistory h

-- a run of the machine that keeps the edits
abbrev pub AreHistoryRun : History → List Command → List (Result Done RunFault) → FileContents → Type 0
AreHistoryRun = AreOneRun HistoryStep top_text HasHistoryRecords

-- With takes among them they are one run of the machine that keeps the edits.
abbrev pub InvocationsAreHistoryRun : Type 0
InvocationsAreHistoryRun =
    (text : List ℕ) (commands : List Command) (results : List (Result Done RunFault))
    (end : FileContents) → InvokesAll (without_journal text) commands results end
    → AreHistoryRun (initial_history text) commands results end

-- ---- a command that ended at a limit might as well not have been given

abbrev pub is_limit_result : Result Done RunFault → Bool
is_limit_result (Ok d) = false
is_limit_result (Err fault) = is_limit fault

-- the commands that did not end at a limit, and what they returned
abbrev pub commands_within : List Command → List (Result Done RunFault) → List Command
commands_within [] results = []
commands_within (command ∷ commands) [] = []
commands_within (command ∷ commands) (result ∷ results) =
    if is_limit_result result then commands_within commands results
    else command ∷ commands_within commands results

abbrev pub results_within : List (Result Done RunFault) → List (Result Done RunFault)
results_within [] = []
results_within (result ∷ results) =
    if is_limit_result result then results_within results else result ∷ results_within results

-- what a command on a file returns for a reply
abbrev pub result_of : Result Done Fault → Result Done RunFault
result_of (Ok d) = Ok d
result_of (Err fault) = Err (run_fault_of fault)

-- The commands that did not end at a limit, alone, are a run of the machine, and have its replies.
abbrev pub LimitsChangeNothing : {State : Type 0}
    → (Command → State → Result Done Fault → State → Type 0) → Type 0
LimitsChangeNothing {State} Step =
    (first end : State) (commands : List Command) (results : List (Result Done RunFault))
    → RunBy (StepOrLimit Step) first commands results end
    → (replies : List (Result Done Fault)) × (results_within results ≡ map result_of replies)
    × RunBy Step first (commands_within commands results) replies end
