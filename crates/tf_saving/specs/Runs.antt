-- Runs of the machine over a disk.
use Rattle.std.specs.Prelude.{◌≡◌, ℕ, zero, suc, List, [], ◌∷◌, Option, Some, None, Result, Ok, Err}
use Rattle.tf_saving.specs.Disk.{File, Durable, Names, Directory, Disk, Contents, when_done, when_failed}
use Rattle.tf_saving.specs.Disk.{reply_when_done}
use Rattle.tf_saving.specs.Steps.{call_of, step_after}
use Rattle.tf_saving.specs.declared.call.SavedFile.{SavedFile}
use Rattle.tf_saving.specs.declared.call.Syscall.{Syscall}
use Rattle.tf_saving.specs.declared.call.Syscall.TheVariants.{SyncDirectory}
use Rattle.tf_saving.specs.declared.call.Reply.{Reply}
use Rattle.tf_saving.specs.declared.call.Reply.TheVariants.{CannotReplace, Failed}
use Rattle.tf_saving.specs.declared.step.End.{End}
use Rattle.tf_saving.specs.declared.step.Step.{Step}
use Rattle.tf_saving.specs.declared.step.Step.TheVariants.{FindNewJournal, OpenJournal}

-- what happens to a call
pub data Fate : Type 0 where
  Succeeds : Fate
  -- it fails, and is not done
  Fails : Fate
  -- it is not done, since no new file can replace the old one
  IsRuledOut : Fate
  -- it is done, and reported as failed
  FailsOnceDone : Fate
  -- it is still to come: another command's save syncs the directory of this part first
  AnotherSyncs : (part : SavedFile) → Fate

abbrev pub reply : Syscall → Disk → Fate → Reply
reply call d Succeeds = reply_when_done call d
reply call d Fails = Failed
reply call d IsRuledOut = CannotReplace
reply call d FailsOnceDone = Failed
reply call d (AnotherSyncs part) = Failed

abbrev pub disk_after : Syscall → Contents → Disk → Fate → Disk
disk_after call s d Succeeds = when_done call s d
disk_after call s d Fails = when_failed call d
disk_after call s d IsRuledOut = when_failed call d
disk_after call s d FailsOnceDone = when_done call s d
disk_after call s d (AnotherSyncs part) = d

-- a command on its way: its next step, and the disk
pub record State : Type 0 where
  pub step : Step
  pub disk : Disk

abbrev pub stepped_by : Result Syscall End → Contents → State → Fate → State
stepped_by (Err end) s m fate = m
stepped_by (Ok call) s m fate =
    record {
      step = step_after m.step (reply call m.disk fate);
      disk = disk_after call s m.disk fate;
    }

abbrev pub stepped : Contents → State → Fate → State
stepped s m (AnotherSyncs part) = record { step = m.step; disk = when_done (SyncDirectory part) s m.disk }
stepped s m fate = stepped_by (call_of m.step) s m fate

-- The state after calls with these fates. Since each prefix of a list is a list, a law on all lists
-- speaks of an interruption at each call.
abbrev pub run : Contents → List Fate → State → State
run s [] m = m
run s (fate ∷ fates) m = run s fates (stepped s m fate)

-- a text and its journal
pub record Pair : Type 0 where
  pub text : Option File
  pub journal : Option File

-- the files under the own names
abbrev pub found : Disk → Pair
found d = record { text = d.text.current.own; journal = d.journal.current.own }

abbrev pub as_files : Contents → Pair
as_files s = record { text = Some (Durable s.text); journal = Some (Durable s.journal) }

-- there is no new file
abbrev pub HasNoNewFiles : Disk → Type 0
HasNoNewFiles d = (d.text.current.new ≡ None) × (d.journal.current.new ≡ None)

-- a command begins to save, or to recover from an interrupted one
abbrev pub saving : Disk → State
saving d = record { step = OpenJournal; disk = d }

abbrev pub recovering : Disk → State
recovering d = record { step = FindNewJournal; disk = d }

-- what may happen after an interruption
pub data Event : Type 0 where
  -- the next command recovers, and is interrupted after these calls
  Recovers : (fates : List Fate) → Event
  -- a power loss: the content with this number, from 0, is left of each directory
  LosesPower : (text journal : ℕ) → Event

-- these names, all of them durable
abbrev pub all_durable : Names → Directory
all_durable names = record { current = names; possible = names ∷ [] }

abbrev pub nth : List Names → ℕ → Option Names
nth [] k = None
nth (n ∷ ns) zero = Some n
nth (n ∷ ns) (suc k) = nth ns k

-- this content is left; without one nothing was lost
abbrev pub restored : Option Names → Directory → Directory
restored None f = f
restored (Some names) f = all_durable names

abbrev pub after_event : Contents → Disk → Event → Disk
after_event s d (Recovers fates) = (run s fates (recovering d)).disk
after_event s d (LosesPower text journal) =
    record {
      text = restored (nth d.text.possible text) d.text;
      journal = restored (nth d.journal.possible journal) d.journal;
      checks = d.checks;
    }

-- the disk after all these events, in order
abbrev pub after_events : Contents → List Event → Disk → Disk
after_events s [] d = d
after_events s (event ∷ events) d = after_events s events (after_event s d event)
