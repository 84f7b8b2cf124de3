-- What is proved of all runs.
use Rattle.std.specs.Prelude.{◌≡◌, ◌⊎◌, List, ◌∷◌, Option, Some, None, replicate, Bool, true, false}
use Rattle.tf_saving.specs.Adoption.{IsAdoptable, IsUnadoptable}
use Rattle.tf_saving.specs.Disk.{File, Checks, Disk, Contents}
use Rattle.tf_saving.specs.Runs.{Fate, Succeeds, Fails, FailsOnceDone, State, Event, Pair, as_files}
use Rattle.tf_saving.specs.Runs.{HasNoNewFiles, saving, recovering, all_durable, run, after_events}
use Rattle.tf_saving.specs.Stable.{IsStable}
use Rattle.tf_saving.specs.declared.call.SavedFile.{SavedFile}
use Rattle.tf_saving.specs.declared.step.End.TheVariants.{Success, InPlace, Error, Late}
use Rattle.tf_saving.specs.declared.step.Step.{Step}
use Rattle.tf_saving.specs.declared.step.Step.TheVariants.{CheckRename, RemoveJournal, SyncRemoval}
use Rattle.tf_saving.specs.declared.step.Step.TheVariants.{RemoveText, CompareInPlace, Ended}

-- A text and its journal without new files, all durable, are stable.
abbrev pub InitialIsStable : Type 0
InitialIsStable = (p : Pair) (checks : Checks) →
    IsStable p (record {
      text = all_durable (record { own = p.text; new = None });
      journal = all_durable (record { own = p.journal; new = None });
      checks = checks;
    })

-- Wherever a save is interrupted, whichever calls fail, whatever a power loss leaves, and however
-- often the commands after it are interrupted too: once a recovery succeeds, text and journal are
-- both old or both new.
abbrev pub NothingIsLost : Type 0
NothingIsLost =
    (old : Pair) (d : Disk) → IsStable old d → (s : Contents) → IsAdoptable d.checks (as_files s)
    → (fates : List Fate) (events : List Event) (last : List Fate)
    → let stopped = (run s fates (saving d)).disk in
    let next = run s last (recovering (after_events s events stopped)) in
    next.step ≡ Ended Success → IsStable old next.disk ⊎ IsStable (as_files s) next.disk

-- A new journal that is found alone and may not be adopted replaces nothing, however often the
-- commands that find it are interrupted: once a recovery succeeds, text and journal are as they
-- were.
abbrev pub StrayIsNotAdopted : Type 0
StrayIsNotAdopted =
    (p : Pair) (stray : File) (checks : Checks) → IsUnadoptable checks p (Some stray)
    → let d : Disk = record {
      text = all_durable (record { own = p.text; new = None });
      journal = all_durable (record { own = p.journal; new = Some stray });
      checks = checks;
    } in
    (s : Contents) (events : List Event) (last : List Fate)
    → let next = run s last (recovering (after_events s events d)) in
    next.step ≡ Ended Success → IsStable p next.disk

-- On any disk, at each call: a new journal that may not be adopted replaces nothing.
abbrev pub UnadoptableIsNotAdopted : Type 0
UnadoptableIsNotAdopted =
    (d : Disk) (s : Contents) (fates : List Fate)
    → d.checks.can_adopt d.text.current.own d.journal.current.own d.journal.current.new ≡ false
    → let n = run s fates (recovering d) in
    (n.disk.text.current.own ≡ d.text.current.own) × (n.disk.journal.current.own ≡ d.journal.current.own)

-- A save that succeeds has replaced both files, and no power loss undoes it.
abbrev pub SuccessIsDurable : Type 0
SuccessIsDurable =
    (old : Pair) (d : Disk) → IsStable old d → (s : Contents) → IsAdoptable d.checks (as_files s)
    → (fates : List Fate)
    → let m = run s fates (saving d) in
    m.step ≡ Ended Success → IsStable (as_files s) m.disk × HasNoNewFiles m.disk

-- A save that ends in an error, or that is to be written in place, has left both files as they
-- were.
abbrev pub ErrorsChangeNothing : Type 0
ErrorsChangeNothing =
    (old : Pair) (d : Disk) → IsStable old d → (s : Contents) → IsAdoptable d.checks (as_files s)
    → (fates : List Fate)
    → let m = run s fates (saving d) in
    ((part : SavedFile) → m.step ≡ Ended (Error part) → IsStable old m.disk)
    × (m.step ≡ Ended InPlace → IsStable old m.disk)

-- A save that ends late has replaced the text: unless the power fails, the next recovery finds both
-- new.
abbrev pub LateRecoversToNew : Type 0
LateRecoversToNew =
    (old : Pair) (d : Disk) → IsStable old d → (s : Contents) → IsAdoptable d.checks (as_files s)
    → (fates : List Fate)
    → let m = run s fates (saving d) in m.step ≡ Ended Late
    → (last : List Fate) → let next = run s last (recovering m.disk) in
    next.step ≡ Ended Success → IsStable (as_files s) next.disk

-- On any disk a recovery of which no call fails succeeds, within eight calls, and leaves no new
-- file.
abbrev pub RecoveryEnds : Type 0
RecoveryEnds =
    (d : Disk) (s : Contents)
    → let m = run s (replicate 8 Succeeds) (recovering d) in
    (m.step ≡ Ended Success) × HasNoNewFiles m.disk

-- A save of which no call fails succeeds, within nineteen calls, if no other program changes
-- anything.
abbrev pub UnfailingSaveSucceeds : Type 0
UnfailingSaveSucceeds =
    (text : File) (journal : Option File) (s : Contents)
    (can_adopt : Option File → Option File → Option File → Bool)
    → let d : Disk = record {
      text = all_durable (record { own = Some text; new = None });
      journal = all_durable (record { own = journal; new = None });
      checks = record { is_unchanged = true; is_ours = λ part. true; can_adopt = can_adopt };
    } in
    (run s (replicate 19 Succeeds) (saving d)).step ≡ Ended Success

-- the steps after a reply that no new file can replace the old one
abbrev pub IsGoingInPlace : Step → Type 0
IsGoingInPlace (CheckRename InPlace) = Unit {0}
IsGoingInPlace (RemoveJournal InPlace) = Unit {0}
IsGoingInPlace (SyncRemoval InPlace) = Unit {0}
IsGoingInPlace (RemoveText InPlace) = Unit {0}
IsGoingInPlace CompareInPlace = Unit {0}
IsGoingInPlace (Ended InPlace) = Unit {0}
IsGoingInPlace _ = ⊥

-- On any disk, at any other step: a call that fails, done or not, never leads to writing in place.
abbrev pub FailureIsNotInPlace : Type 0
FailureIsNotInPlace =
    (m : State) (s : Contents) → (IsGoingInPlace m.step → ⊥) → (fates : List Fate)
    → ((run s (Fails ∷ fates) m).step ≡ Ended InPlace → ⊥)
    × ((run s (FailsOnceDone ∷ fates) m).step ≡ Ended InPlace → ⊥)
