-- Runs of the program one after another over the files of a store: what they do to one file.
use Rattle.std.specs.Prelude.{◌≡◌, ◌⊎◌, ℕ, List, [], ◌∷◌, ◌++◌, Some, None, Result, Ok}
use Rattle.std.specs.Borrow.{Bor}
use Rattle.tf_cli.specs.Reading.{IsTaskOfArguments, IsArgumentsFault}
use Rattle.tf_cli.specs.declared.exits.Exit.{Exit}
use Rattle.tf_cli.specs.declared.options.Action.{Action}
use Rattle.tf_cli.specs.declared.tasks.Task.{Task}
use Rattle.tf_session.specs.Invocations.{without_journal, InvokesAll, AreStackRun, AreHistoryRun}
use Rattle.tf_session.specs.Layers.{initial_history}
use Rattle.tf_session.specs.Machine.{initial_stack, WithoutTake}
use Rattle.tf_session.specs.declared.command.Command.{Command}
use Rattle.tf_session.specs.declared.command.Done.{Done}
use Rattle.tf_session.specs.declared.fault.RunFault.{RunFault}
use Rattle.tf_files.specs.Stores.{Files, Spot, AreApart, contents_at}
use Rattle.tf_program.specs.Printing.{Console}
use Rattle.tf_program.specs.Runs.{Works, world_of}
use Rattle.tf_program.specs.Work.{file_command}

-- a run of the program: its arguments, its exit status, and its streams before it and after it
pub record ProgramRun : Type 0 where
  pub args : List (List ℕ)
  pub status : ℕ
  pub before : Console
  pub after : Console

-- each run finds the files as the one before it left them
abbrev pub RunsInTurn : List ProgramRun → Files → Files → Type 0
RunsInTurn [] old new = new ≡ old
RunsInTurn (run ∷ runs) old new =
    (mid : Files)
    × Works run.args run.status (world_of (Some old) run.before) (world_of (Some mid) run.after)
    × RunsInTurn runs mid new

-- ---- the commands on one file

-- by where names lead to: each of these leads to this text and this journal, or to neither of them
abbrev pub LeadToBothOrNeither : (List ℕ → Spot) → Spot → List (Bor (List ℕ)) → Type 0
LeadToBothOrNeither leads spot [] = Unit {0}
LeadToBothOrNeither leads spot (name ∷ names) =
    ((leads name.now ≡ spot) ⊎ AreApart (leads name.now) spot) × LeadToBothOrNeither leads spot names

-- and so does each file in the arguments of these runs
abbrev pub NameBothOrNeither : (List ℕ → Spot) → Spot → List ProgramRun → Type 0
NameBothOrNeither leads spot [] = Unit {0}
NameBothOrNeither leads spot (run ∷ runs) =
    ((task : Task) → IsTaskOfArguments run.args task → LeadToBothOrNeither leads spot task.files.items)
    × NameBothOrNeither leads spot runs

-- No command is done by this name on what is at the place: it leads elsewhere, or the action changes
-- no file; or the run had an error, as where the file was not read or not saved.
abbrev pub IsLeftOut : (List ℕ → Spot) → Spot → ℕ → Action → List ℕ → Type 0
IsLeftOut leads spot status action name =
    AreApart (leads name) spot ⊎ (file_command action name ≡ None) ⊎ (status ≡ 1)

-- the command that the action does by this name on it; if it returned an error the run had one
abbrev pub IsCommandBy : (List ℕ → Spot) → Spot → ℕ → Action → List ℕ → Command → Result Done RunFault
    → Type 0
IsCommandBy leads spot status action name command result =
    (leads name ≡ spot) × (file_command action name ≡ Some command)
    × ((status ≡ 1) ⊎ ((done : Done) × (result ≡ Ok done)))

-- the commands that the action does by these names on it, in their order, and what they returned
abbrev pub AreCommandsBy : (List ℕ → Spot) → Spot → ℕ → Action → List (Bor (List ℕ)) → List Command
    → List (Result Done RunFault) → Type 0
AreCommandsBy leads spot status action [] commands results = (commands ≡ []) × (results ≡ [])
AreCommandsBy leads spot status action (name ∷ names) commands results =
    (IsLeftOut leads spot status action name.now
    × AreCommandsBy leads spot status action names commands results)
    ⊎ ((command : Command) × (others : List Command) × (result : Result Done RunFault)
    × (rest : List (Result Done RunFault))
    × IsCommandBy leads spot status action name.now command result
    × AreCommandsBy leads spot status action names others rest
    × (commands ≡ command ∷ others) × (results ≡ result ∷ rest))

-- those of a run: of its task, or none
abbrev pub AreCommandsOfRun : (List ℕ → Spot) → Spot → ProgramRun → List Command
    → List (Result Done RunFault) → Type 0
AreCommandsOfRun leads spot run commands results =
    ((task : Task) × IsTaskOfArguments run.args task
    × AreCommandsBy leads spot run.status task.action task.files.items commands results)
    ⊎ ((exit : Exit) × IsArgumentsFault run.args exit × (commands ≡ []) × (results ≡ []))

-- those of all runs, in order
abbrev pub AreCommandsOf : (List ℕ → Spot) → Spot → List ProgramRun → List Command
    → List (Result Done RunFault) → Type 0
AreCommandsOf leads spot [] commands results = (commands ≡ []) × (results ≡ [])
AreCommandsOf leads spot (run ∷ runs) commands results =
    (first : List Command) × (others : List Command) × (answers : List (Result Done RunFault))
    × (rest : List (Result Done RunFault)) × AreCommandsOfRun leads spot run first answers
    × AreCommandsOf leads spot runs others rest
    × (commands ≡ first ++ others) × (results ≡ answers ++ rest)

-- ---- the law

-- A file without a journal, after these commands: they are one run of the machine of whole texts,
-- and with takes among them of the machine that keeps the edits.
abbrev pub AreOneRunOn : List ℕ → List Command → List (Result Done RunFault) → Files → Spot → Type 0
AreOneRunOn text commands results files spot =
    InvokesAll (without_journal text) commands results (contents_at files spot)
    × (WithoutTake commands
    → AreStackRun (initial_stack text) commands results (contents_at files spot))
    × AreHistoryRun (initial_history text) commands results (contents_at files spot)

-- What runs of the program do to a file that had no journal is one run of these machines, over the
-- commands that were done to it, if each name in their arguments leads to the file and its journal,
-- or to neither of them.
abbrev pub ProgramRunsAreOneRun : Type 0
ProgramRunsAreOneRun =
    (text name : List ℕ) (runs : List ProgramRun) (old new : Files)
    → contents_at old (old.spot name) ≡ without_journal text
    → NameBothOrNeither old.spot (old.spot name) runs → RunsInTurn runs old new
    → (commands : List Command) × (results : List (Result Done RunFault))
    × AreCommandsOf old.spot (old.spot name) runs commands results
    × AreOneRunOn text commands results new (old.spot name)
