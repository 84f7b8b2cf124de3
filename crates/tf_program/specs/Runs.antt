-- What a run does with its arguments: what it does to the files of a store, what it prints, and its
-- exit status.
use Rattle.std.specs.Prelude.{◌≡◌, ◌⊎◌, ℕ, true, false, List, length, Option}
use Rattle.tf_cli.specs.Reading.{IsTaskOfArguments, IsArgumentsFault}
use Rattle.tf_cli.specs.declared.exits.Exit.{Exit}
use Rattle.tf_cli.specs.declared.tasks.Task.{Task}
use Rattle.tf_cli.specs.declared.outcome.RunOutcome.{RunOutcome}
use Rattle.tf_files.specs.Stores.{Files}
use Rattle.tf_program.specs.Tasks.{DoesEach, outcome_of_files}
use Rattle.tf_program.specs.Printing.{Console, PrintsExit}

-- what a store holds, if that is known, and what there is to be read and was printed
pub record World : Type 0 where
  pub files : Option Files
  pub console : Console

abbrev pub world_of : Option Files → Console → World
world_of files console = record { files = files; console = console }

-- 1 after an error, else 2 after an issue, else 3 after a file that is not formatted, else 0
abbrev pub IsStatusOfOutcome : RunOutcome → ℕ → Type 0
IsStatusOfOutcome outcome status =
    (outcome.has_fault ≡ true → status ≡ 1)
    × (outcome.has_fault ≡ false → outcome.has_issue ≡ true → status ≡ 2)
    × (outcome.has_fault ≡ false → outcome.has_issue ≡ false → outcome.has_unformatted ≡ true
    → status ≡ 3)
    × (outcome.has_fault ≡ false → outcome.has_issue ≡ false → outcome.has_unformatted ≡ false
    → status ≡ 0)

-- the task's action was done on each of its files, in the order given
abbrev pub RunsTask : Task → RunOutcome → World → World → Type 0
RunsTask task outcome old new =
    DoesEach task.action task.locate task.files.items
    (record {
      outcome = outcome_of_files (length task.files.items);
      console = old.console;
      files = old.files;
    })
    (record { outcome = outcome; console = new.console; files = new.files })

-- the task was done on its files, and the status is that of what they have met
abbrev pub WorksOnTask : Task → ℕ → World → World → Type 0
WorksOnTask task status old new =
    (outcome : RunOutcome) × RunsTask task outcome old new × IsStatusOfOutcome outcome status

-- What was done with these arguments: their task; or they have none, the reason was printed, and no
-- file has changed.
abbrev pub Works : List (List ℕ) → ℕ → World → World → Type 0
Works args status old new =
    ((task : Task) × IsTaskOfArguments args task × WorksOnTask task status old new)
    ⊎ ((exit : Exit) × IsArgumentsFault args exit × PrintsExit exit status old.console new.console
    × (new.files ≡ old.files))
