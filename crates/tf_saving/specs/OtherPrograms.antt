-- What another program may change while a command saves, and what is proved of it.
use Rattle.std.specs.Prelude.{◌≡◌, ◌⊎◌, List, map, Some, false}
use Rattle.tf_saving.specs.Adoption.{IsAdoptable}
use Rattle.tf_saving.specs.Disk.{File, Names, Disk, Contents}
use Rattle.tf_saving.specs.Runs.{Fate, State, Event, Pair, as_files, saving, recovering, run, after_events}
use Rattle.tf_saving.specs.Stable.{IsStable}
use Rattle.tf_saving.specs.declared.call.SavedFile.{SavedFile}
use Rattle.tf_saving.specs.declared.step.End.{End}
use Rattle.tf_saving.specs.declared.step.End.TheVariants.{Success, InPlace, Error}
use Rattle.tf_saving.specs.declared.step.Step.{Step}
use Rattle.tf_saving.specs.declared.step.Step.TheVariants.{OpenJournal, OpenText, SyncEarlierRename}
use Rattle.tf_saving.specs.declared.step.Step.TheVariants.{CreateText, CopyTextAttributes, SyncTextName}
use Rattle.tf_saving.specs.declared.step.Step.TheVariants.{CreateJournal, CopyJournalAttributes, WriteJournal}
use Rattle.tf_saving.specs.declared.step.Step.TheVariants.{SyncJournal, WriteText, SyncText, SyncJournalName}
use Rattle.tf_saving.specs.declared.step.Step.TheVariants.{CompareNewJournal, CompareNewText, CompareText}
use Rattle.tf_saving.specs.declared.step.Step.TheVariants.{Ended}

-- the steps from the first new file to the comparison of the first of them
abbrev pub CreatesNewFiles : Step → Type 0
CreatesNewFiles CreateText = Unit {0}
CreatesNewFiles CopyTextAttributes = Unit {0}
CreatesNewFiles SyncTextName = Unit {0}
CreatesNewFiles CreateJournal = Unit {0}
CreatesNewFiles CopyJournalAttributes = Unit {0}
CreatesNewFiles WriteJournal = Unit {0}
CreatesNewFiles SyncJournal = Unit {0}
CreatesNewFiles WriteText = Unit {0}
CreatesNewFiles SyncText = Unit {0}
CreatesNewFiles SyncJournalName = Unit {0}
CreatesNewFiles CompareNewJournal = Unit {0}
CreatesNewFiles _ = ⊥

-- and to the comparison of the text, the last step before the text is renamed
abbrev pub PreparesRename : Step → Type 0
PreparesRename CompareNewText = Unit {0}
PreparesRename CompareText = Unit {0}
PreparesRename step = CreatesNewFiles step

-- and from the first step of a save
abbrev pub PrecedesRename : Step → Type 0
PrecedesRename OpenJournal = Unit {0}
PrecedesRename OpenText = Unit {0}
PrecedesRename SyncEarlierRename = Unit {0}
PrecedesRename step = PreparesRename step

abbrev pub IsError : End → Type 0
IsError (Error part) = Unit {0}
IsError _ = ⊥

abbrev pub IsInPlace : End → Type 0
IsInPlace InPlace = Unit {0}
IsInPlace _ = ⊥

-- text and journal are the files that they were
abbrev pub IsUnchanged : Disk → Disk → Type 0
IsUnchanged before after =
    (after.text.current.own ≡ before.text.current.own)
    × (after.journal.current.own ≡ before.journal.current.own)

-- On any disk, if the text is no longer the file that was read: at each call from there on text and
-- journal stay as they are, and the save ends in an error.
abbrev pub ChangedTextIsKept : Type 0
ChangedTextIsKept =
    (m : State) (s : Contents) → PrecedesRename m.step
    → m.disk.checks.is_unchanged ≡ false → (fates : List Fate)
    → let n = run s fates m in IsUnchanged m.disk n.disk × ((end : End) → n.step ≡ Ended end → IsError end)

-- On any disk, if a new file is no longer the one that this command created: text and journal stay
-- as they are at each call, and the save ends in an error or is to be written in place.
abbrev pub ForeignFileIsNotRenamed : Type 0
ForeignFileIsNotRenamed =
    (m : State) (s : Contents) → CreatesNewFiles m.step
    → (part : SavedFile) → m.disk.checks.is_ours part ≡ false → (fates : List Fate)
    → let n = run s fates m in
    IsUnchanged m.disk n.disk × ((end : End) → n.step ≡ Ended end → IsError end ⊎ IsInPlace end)

-- with this file as the text
abbrev pub with_text : File → Names → Names
with_text file names = record { own = Some file; new = names.new }

-- another program writes the text, after this command read it
abbrev pub edited : File → State → State
edited file m =
    record {
      step = m.step;
      disk = record {
        text = record {
          current = with_text file m.disk.text.current;
          possible = map (with_text file) m.disk.text.possible;
        };
        journal = m.disk.journal;
        checks = record {
          is_unchanged = false;
          is_ours = m.disk.checks.is_ours;
          can_adopt = m.disk.checks.can_adopt;
        };
      };
    }

-- If another program writes the text at any call from the first new file to the comparison of the
-- text, and the save is interrupted anywhere after it: once a recovery succeeds, the text is what
-- that program wrote, and the journal is the old one.
abbrev pub EditIsKept : Type 0
EditIsKept =
    (old : Pair) (d : Disk) → IsStable old d → (s : Contents) → IsAdoptable d.checks (as_files s)
    → (before : List Fate)
    → let m = run s before (saving d) in PreparesRename m.step
    → (theirs : File) (fates : List Fate) (events : List Event) (last : List Fate)
    → let stopped = (run s fates (edited theirs m)).disk in
    let next = run s last (recovering (after_events s events stopped)) in
    next.step ≡ Ended Success → IsStable (record { text = Some theirs; journal = old.journal }) next.disk
