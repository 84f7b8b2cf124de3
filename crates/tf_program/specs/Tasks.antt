-- What is done on the files of a task, one after another: what is saved of each, printed and met.
use Rattle.std.specs.Prelude.{◌≡◌, ◌⊎◌, ℕ, Bool, true, false, List, [], ◌∷◌, ◌↔◌}
use Rattle.std.specs.Prelude.{Option, Some, None, Result, Ok, Err}
use Rattle.std.specs.Borrow.{Bor}
use Rattle.tf_cli.specs.declared.options.Action.{Action}
use Rattle.tf_cli.specs.declared.outcome.FileOutcome.{FileOutcome}
use Rattle.tf_cli.specs.declared.outcome.RunOutcome.{RunOutcome}
use Rattle.tf_session.specs.Invocations.{FileContents, HasEffect, HasNoEffect}
use Rattle.tf_session.specs.declared.command.Command.{Command}
use Rattle.tf_session.specs.declared.invocation.Effect.{Effect}
use Rattle.tf_session.specs.declared.saver.SavedTexts.{SavedTexts}
use Rattle.tf_files.specs.Stores.{Files, Spot, IsSpotOf, HasContents, MayFail, Saves, IsSaveResult}
use Rattle.tf_files.specs.declared.cause.Trouble.{Trouble}
use Rattle.tf_program.specs.Answers.{AnswersName, IsOutcomeOf}
use Rattle.tf_program.specs.Location.{IsLocatedIn}
use Rattle.tf_program.specs.Printing.{Channel, Console, PrintsAll, FailsToPrint, PrintsError}
use Rattle.tf_program.specs.Work.{file_command}
use Rattle.tf_program.specs.declared.file_error.FileError.{FileError}

-- what the files of a run have met, its streams, and what the store holds, if that is known
pub record Progress : Type 0 where
  pub outcome : RunOutcome
  pub console : Console
  pub files : Option Files

-- ---- a command on a file

-- the command has this effect on the file of this name
abbrev pub HasEffectIn : Command → List ℕ → Option Files → Effect → Type 0
HasEffectIn command name files effect =
    (contents : FileContents) × HasContents files name contents
    × HasEffect command name contents.text contents.journal effect

-- it has none on it, for this error, which is located in its text
abbrev pub HasNoEffectIn : Command → List ℕ → Bool → Option Files → FileError → Type 0
HasNoEffectIn command name locate files error =
    (contents : FileContents) × HasContents files name contents
    × HasNoEffect command contents.text contents.journal error.fault
    × IsLocatedIn contents.text locate error

-- this is an error that the file of this name may have when it is read
abbrev pub IsReadError : Option Files → List ℕ → FileError → Type 0
IsReadError files name error = MayFail files name error.fault × (error.location ≡ None)

-- the text and the journal that a command made
abbrev pub contents_saved : SavedTexts → FileContents
contents_saved saved = record { text = saved.text.items; journal = saved.journal.items }

-- The file of this name and its journal were saved, or not, where a command has made these texts;
-- else nothing was to be saved.
abbrev pub SavesTexts : List ℕ → Option SavedTexts → Result (Unit {0}) Trouble → Option Files
    → Option Files → Type 0
SavesTexts name None result old new = (result ≡ Ok tt) × (new ≡ old)
SavesTexts name (Some saved) result old new =
    (spot : Spot) × IsSpotOf old name spot
    × Saves spot (contents_saved saved) result old new × IsSaveResult old spot result

-- Once it was saved, these lines were printed, or a call for them failed; if the save failed, none was.
abbrev pub PrintsLines : List ℕ → FileOutcome → Result (Unit {0}) Trouble
    → Result FileOutcome FileError → Channel → Channel → Type 0
PrintsLines lines outcome (Ok saved) (Ok met) old new = (met ≡ outcome) × PrintsAll lines old new
PrintsLines lines outcome (Ok saved) (Err error) old new =
    (error.location ≡ None) × FailsToPrint lines error.fault old new
PrintsLines lines outcome (Err trouble) (Ok met) old new = ⊥
PrintsLines lines outcome (Err trouble) (Err error) old new =
    (error.fault ≡ trouble.fault) × (error.location ≡ None) × (new ≡ old)

-- the effect of the command on the file of this name: what saving its texts and printing its lines
-- came to, which may have failed
abbrev pub DoesEffect : Command → List ℕ → Result FileOutcome FileError → Progress → Option Files
    → Channel → Type 0
DoesEffect command name met old files output =
    (effect : Effect) × HasEffectIn command name old.files effect
    × (outcome : FileOutcome) × IsOutcomeOf outcome effect.done.left
    × (saved : Result (Unit {0}) Trouble) × SavesTexts name effect.saved saved old.files files
    × PrintsLines effect.lines.items outcome saved met old.console.output output

-- the command has no effect on it, or the file was not read
abbrev pub HasError : Command → List ℕ → Bool → Result FileOutcome FileError → Progress → Option Files
    → Channel → Type 0
HasError command name locate (Ok met) old files output = ⊥
HasError command name locate (Err error) old files output =
    (IsReadError old.files name error ⊎ HasNoEffectIn command name locate old.files error)
    × (files ≡ old.files) × (output ≡ old.console.output)

-- ---- what is met

-- one more file has met this
abbrev pub IsOutcomeNoted : FileOutcome → RunOutcome → RunOutcome → Type 0
IsOutcomeNoted met old new =
    (new.has_fault ≡ old.has_fault)
    × (new.has_issue ≡ true ↔ ((old.has_issue ≡ true) ⊎ (met ≡ FileOutcome.Issue)))
    × (new.has_unformatted ≡ true
    ↔ ((old.has_unformatted ≡ true) ⊎ (met ≡ FileOutcome.NotFormatted)))

-- one more file has an error
abbrev pub IsFaultNoted : RunOutcome → RunOutcome → Type 0
IsFaultNoted old new =
    (new.has_fault ≡ true) × (new.has_issue ≡ old.has_issue)
    × (new.has_unformatted ≡ old.has_unformatted)

-- the file of this name has met this, and its error was printed if it has one
abbrev pub IsMet : List ℕ → Bool → Result FileOutcome FileError → Progress → Progress → Type 0
IsMet name locate (Ok met) old new =
    IsOutcomeNoted met old.outcome new.outcome × (new.console ≡ old.console)
    × (new.files ≡ old.files)
IsMet name locate (Err error) old new =
    IsFaultNoted old.outcome new.outcome
    × (new.console.unread ≡ old.console.unread) × (new.console.output ≡ old.console.output)
    × PrintsError name locate error old.console.errors new.console.errors
    × (new.files ≡ old.files)

-- a run with this output and these files
abbrev pub with_output : Progress → Channel → Option Files → Progress
with_output here output files = record {
  outcome = here.outcome;
  console = record { unread = here.console.unread; output = output; errors = here.console.errors };
  files = files;
}

abbrev pub with_console : Progress → Console → Progress
with_console here console =
    record { outcome = here.outcome; console = console; files = here.files }

-- ---- each file of a task

-- the command on the file of this name; or what changes no file
abbrev pub DoesCommand : Option Command → Action → Bool → List ℕ → Progress → Progress → Type 0
DoesCommand (Some command) action locate name old new =
    (met : Result FileOutcome FileError) × (files : Option Files) × (output : Channel)
    × (DoesEffect command name met old files output ⊎ HasError command name locate met old files output)
    × IsMet name locate met (with_output old output files) new
DoesCommand None action locate name old new =
    (met : Result FileOutcome FileError) × (console : Console)
    × AnswersName action locate name old.files met old.console console
    × IsMet name locate met (with_console old console) new

-- the action on the file of this name
abbrev pub DoesFile : Action → Bool → List ℕ → Progress → Progress → Type 0
DoesFile action locate name old new =
    DoesCommand (file_command action name) action locate name old new

-- the action on the files of these names, one after another
abbrev pub DoesEach : Action → Bool → List (Bor (List ℕ)) → Progress → Progress → Type 0
DoesEach action locate [] old new = new ≡ old
DoesEach action locate (name ∷ names) old new =
    (mid : Progress) × DoesFile action locate name.now old mid
    × DoesEach action locate names mid new

-- nothing has been met on any of this number of files
abbrev pub outcome_of_files : ℕ → RunOutcome
outcome_of_files count =
    record { has_fault = false; has_issue = false; has_unformatted = false; left = count }
