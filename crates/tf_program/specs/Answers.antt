-- What an action that changes no file makes of a text, prints, and returns.
use Rattle.std.specs.Prelude.{◌≡◌, ◌<◌, ◌⊎◌, ℕ, Bool, true, false, List, [], ◌++◌, codes}
use Rattle.std.specs.Prelude.{if◌then◌else◌, Option, None, Result, Ok, Err}
use Rattle.edit_record.specs.Lists.Journal.{JournalEntry}
use Rattle.edit_record.specs.Text.{IsJournalText}
use Rattle.hcl_layout.specs.Layouts.{IsLayout, IsTooLong}
use Rattle.tf_rules.specs.declared.rule_set.RuleSet.{RuleSet}
use Rattle.tf_cli.specs.Arguments.{is_dash}
use Rattle.tf_cli.specs.declared.options.Action.{Action}
use Rattle.tf_cli.specs.declared.outcome.FileOutcome.{FileOutcome}
use Rattle.tf_stream.specs.Streams.{Source}
use Rattle.tf_session.specs.declared.command.Command.TheVariants.{Fmt, Fix}
use Rattle.tf_session.specs.declared.command.Done.{Done}
use Rattle.tf_session.specs.declared.command.Fault.{Fault}
use Rattle.tf_session.specs.declared.fault.RunFault.{RunFault}
use Rattle.tf_session.specs.Faults.{run_fault_of}
use Rattle.tf_session.specs.declared.fault.RunFault.TheVariants.{Memory}
use Rattle.tf_session.specs.Invocations.{AreReportLines, FileContents}
use Rattle.tf_session.specs.Journals.{BadJournalFault}
use Rattle.tf_session.specs.LintStream.{AreLines}
use Rattle.tf_session.specs.Parsing.{DoesParse}
use Rattle.tf_session.specs.Records.{DoesStep, RefusesStep, StepsTo}
use Rattle.tf_session.specs.Rewrites.{RefusesText, IsSyntaxFault}
use Rattle.tf_session.specs.Session.{SessionContents, with_records, without_records}
use Rattle.tf_session.specs.Streams.{ReadsText, IsReadStreamFault}
use Rattle.tf_files.specs.Stores.{Files, HasContents, HasTextOf, MayFail}
use Rattle.tf_program.specs.Lines.{AreRecordLines}
use Rattle.tf_program.specs.Location.{IsLocatedIn}
use Rattle.tf_program.specs.Printing.{Console, PrintsAll, FailsToPrint}
use Rattle.tf_program.specs.declared.file_error.FileError.{FileError}

-- the outcome of a file with `count` issues
abbrev pub IsOutcomeOf : FileOutcome → ℕ → Type 0
IsOutcomeOf FileOutcome.Nothing count = count ≡ 0
IsOutcomeOf FileOutcome.Issue count = 0 < count
IsOutcomeOf FileOutcome.NotFormatted count = ⊥

-- ---- a check

-- the outcome of a text that a fmt does not refuse
abbrev pub ChecksText : List ℕ → FileOutcome → Type 0
ChecksText text FileOutcome.Nothing = DoesParse text × ¬ (IsTooLong text) × IsLayout text text
ChecksText text FileOutcome.Issue = ⊥
ChecksText text FileOutcome.NotFormatted = DoesParse text × ¬ (IsTooLong text) × ¬ (IsLayout text text)

-- what a check prints of a file with this name; standard input has no name to print
abbrev pub check_line : List ℕ → FileOutcome → List ℕ
check_line name FileOutcome.NotFormatted = if is_dash name then [] else name ++ codes "\n"
check_line name FileOutcome.Nothing = []
check_line name FileOutcome.Issue = []

-- ---- a fix

-- The fix makes the new text and records of the old ones; `lines` are what is reported of it in a
-- file of this name.
abbrev pub FixesUnsavedText : List ℕ → RuleSet → SessionContents → Done → List ℕ → SessionContents → Type 0
FixesUnsavedText name rules old d lines new =
    DoesStep (Fix rules) old d new × AreReportLines (Fix rules) name d new.text lines

-- The fix refuses text and records; or it succeeds, and memory runs out for those lines.
abbrev pub NotFixed : RuleSet → SessionContents → RunFault → Type 0
NotFixed rules old fault =
    ((refusal : Fault) × (fault ≡ run_fault_of refusal) × RefusesStep (Fix rules) old refusal)
    ⊎ ((fault ≡ RunFault.Memory)
    × (d : Done) × (new : SessionContents) × DoesStep (Fix rules) old d new)

-- ---- an action on a text

-- What the action on a text of this name makes: its outcome, and what is printed on standard output
-- and on standard error. Revert and list have no text.
abbrev pub IsAnswer : Action → List ℕ → List ℕ → FileOutcome → List ℕ → List ℕ → Type 0
IsAnswer Action.Format name text met output errors =
    (met ≡ FileOutcome.Nothing) × StepsTo Fmt text output × (errors ≡ [])
IsAnswer Action.Check name text met output errors =
    ChecksText text met × (output ≡ check_line name met) × (errors ≡ [])
IsAnswer (Action.Lint rules) name text met output errors =
    (count : ℕ) × AreLines name rules text output count × IsOutcomeOf met count × (errors ≡ [])
IsAnswer (Action.Fix rules) name text met output errors =
    (d : Done) × (new : SessionContents) × FixesUnsavedText name rules (without_records text) d errors new
    × (output ≡ new.text) × IsOutcomeOf met d.left
IsAnswer (Action.Revert number) name text met output errors =
    (met ≡ FileOutcome.Nothing) × (output ≡ []) × (errors ≡ [])
IsAnswer Action.List name text met output errors =
    (met ≡ FileOutcome.Nothing) × (output ≡ []) × (errors ≡ [])

-- why a text is refused
abbrev pub IsRefusal : (List ℕ → Fault → Type 0) → List ℕ → RunFault → Type 0
IsRefusal Refuses text fault =
    (refusal : Fault) × (fault ≡ run_fault_of refusal) × Refuses text refusal

-- why the action makes nothing of a text
abbrev pub IsAnswerFault : Action → List ℕ → RunFault → Type 0
IsAnswerFault Action.Format text fault = IsRefusal (RefusesText Fmt) text fault
IsAnswerFault Action.Check text fault =
    IsRefusal (RefusesText Fmt) text fault
    ⊎ ((fault ≡ RunFault.Memory) × ChecksText text FileOutcome.NotFormatted)
IsAnswerFault (Action.Lint rules) text fault = IsRefusal IsSyntaxFault text fault
IsAnswerFault (Action.Fix rules) text fault = NotFixed rules (without_records text) fault
IsAnswerFault (Action.Revert number) text fault = ⊥
IsAnswerFault Action.List text fault = ⊥

-- ---- what of it is printed

-- nothing was printed
abbrev pub KeepsOutputs : Console → Console → Type 0
KeepsOutputs old new = (new.output ≡ old.output) × (new.errors ≡ old.errors)

-- both were printed, on standard output and then on standard error
abbrev pub PrintsBoth : List ℕ → List ℕ → Console → Console → Type 0
PrintsBoth output errors old new =
    PrintsAll output old.output new.output × PrintsAll errors old.errors new.errors

-- a call failed: for standard output, and nothing was printed on standard error; or for that
abbrev pub FailsToPrintBoth : List ℕ → List ℕ → RunFault → Console → Console → Type 0
FailsToPrintBoth output errors fault old new =
    (FailsToPrint output fault old.output new.output × (new.errors ≡ old.errors))
    ⊎ (PrintsAll output old.output new.output × FailsToPrint errors fault old.errors new.errors)

-- what the action makes of a text was printed
abbrev pub PrintsAnswer : Action → List ℕ → List ℕ → FileOutcome → Console → Console → Type 0
PrintsAnswer action name text met old new =
    (output : List ℕ) × (errors : List ℕ) × IsAnswer action name text met output errors
    × PrintsBoth output errors old new

-- the action makes nothing of a text, and nothing was printed; or not all that it makes was
abbrev pub HasNoAnswer : Action → List ℕ → List ℕ → RunFault → Console → Console → Type 0
HasNoAnswer action name text fault old new =
    (IsAnswerFault action text fault × KeepsOutputs old new)
    ⊎ ((met : FileOutcome) × (output : List ℕ) × (errors : List ℕ)
    × IsAnswer action name text met output errors × FailsToPrintBoth output errors fault old new)

-- what the action on this text has printed, and what is met
abbrev pub AnswersText : Action → Bool → List ℕ → List ℕ → Result FileOutcome FileError
    → Console → Console → Type 0
AnswersText action locate name text (Ok met) old new = PrintsAnswer action name text met old new
AnswersText action locate name text (Err error) old new =
    IsLocatedIn text locate error × HasNoAnswer action name text error.fault old new

-- ---- the text of a stream

-- why a text was not read whole; its error is at no byte
abbrev pub IsNotRead : Source → Result FileOutcome FileError → Type 0
IsNotRead source (Ok met) = ⊥
IsNotRead source (Err error) = IsReadStreamFault error.fault source × (error.location ≡ None)

-- The source had a whole text, and the action was done on it; or it was not read whole, and nothing
-- was printed.
abbrev pub AnswersStream : Action → Bool → List ℕ → Result FileOutcome FileError → Source
    → Console → Console → Type 0
AnswersStream action locate name met source old new =
    ((text : List ℕ) × ReadsText source text × AnswersText action locate name text met old new)
    ⊎ (IsNotRead source met × KeepsOutputs old new)

-- ---- the records of a journal

-- a line for each record of a session was printed
abbrev pub ListsRecords : SessionContents → Result FileOutcome FileError → Console → Console → Type 0
ListsRecords contents (Ok met) old new =
    (met ≡ FileOutcome.Nothing) × (lines : List ℕ)
    × AreRecordLines contents 1 contents.records lines
    × PrintsAll lines old.output new.output × (new.errors ≡ old.errors)
ListsRecords contents (Err error) old new =
    (error.location ≡ None) × (new.errors ≡ old.errors)
    × (((error.fault ≡ Memory) × (new.output ≡ old.output))
    ⊎ ((lines : List ℕ) × AreRecordLines contents 1 contents.records lines
    × FailsToPrint lines error.fault old.output new.output))

-- why there is no list: an error that the file may have, or the journal can't be decoded
abbrev pub IsUnlisted : List ℕ → Option Files → Result FileOutcome FileError → Type 0
IsUnlisted name files (Ok met) = ⊥
IsUnlisted name files (Err error) =
    (error.location ≡ None)
    × (MayFail files name error.fault
    ⊎ ((contents : FileContents) × HasContents files name contents
    × BadJournalFault contents.journal error.fault))

-- the records of the journal of the file of this name were listed, or nothing was printed
abbrev pub ListsFile : List ℕ → Option Files → Result FileOutcome FileError → Console → Console → Type 0
ListsFile name files met old new =
    ((contents : FileContents) × HasContents files name contents
    × (records : List JournalEntry) × IsJournalText contents.journal records
    × ListsRecords (with_records contents.text records) met old new)
    ⊎ (IsUnlisted name files met × KeepsOutputs old new)

-- ---- a name: standard input, or a file

-- the file of this name was not read, for an error that it may have
abbrev pub IsNotOpened : List ℕ → Option Files → Result FileOutcome FileError → Type 0
IsNotOpened name files (Ok met) = ⊥
IsNotOpened name files (Err error) = MayFail files name error.fault × (error.location ≡ None)

abbrev pub is_list : Action → Bool
is_list Action.List = true
is_list action = false

-- the records of its journal for a list; for any other action its text
abbrev pub AnswersFile : Action → Bool → List ℕ → Option Files → Result FileOutcome FileError
    → Console → Console → Type 0
AnswersFile action locate name files met old new =
    (is_list action ≡ true → ListsFile name files met old new)
    × (is_list action ≡ false
    → ((text : List ℕ) × HasTextOf files name text × AnswersText action locate name text met old new)
    ⊎ (IsNotOpened name files met × KeepsOutputs old new))

-- the action on standard input, or on the file of this name, which leaves standard input as it was
abbrev pub AnswersName : Action → Bool → List ℕ → Option Files → Result FileOutcome FileError
    → Console → Console → Type 0
AnswersName action locate name files met old new =
    (is_dash name ≡ true
    → AnswersStream action locate name met (record { before = old.unread; after = new.unread }) old new)
    × (is_dash name ≡ false
    → AnswersFile action locate name files met old new × (new.unread ≡ old.unread))
