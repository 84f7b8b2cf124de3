-- What holds of the disk at each step.
use Rattle.std.specs.Prelude.{◌≡◌, ◌⊎◌, true, false, Some}
use Rattle.tf_saving.specs.Disk.{File, Durable, Unsynced, Empty, Disk, Contents}
use Rattle.tf_saving.specs.Runs.{Pair, as_files, HasNoNewFiles}
use Rattle.tf_saving.specs.Stable.{Each, InAll, Owns, HasNoNew, HasNew, OwnsAlone, IsUnrenamed, IsRenamed, HasOnlyStray, RecoversTo, IsStable}
use Rattle.tf_saving.proofs.Renaming.{OwnsWithNew, IsRenaming, IsOldOrNew}
use Rattle.tf_saving.specs.declared.step.End.{End}
use Rattle.tf_saving.specs.declared.step.End.TheVariants.{Success, InPlace, Error, Unknown, Late}
use Rattle.tf_saving.specs.declared.step.Step.{Step}
use Rattle.tf_saving.specs.declared.step.Step.TheVariants.{FindNewJournal, FindNewText, ReadNewJournal, RemoveStray, OpenJournal, OpenText, SyncEarlierRename, CreateText, CopyTextAttributes, SyncTextName, CreateJournal, CopyJournalAttributes, WriteJournal, SyncJournal, WriteText, SyncText, SyncJournalName, CompareNewJournal, CompareNewText, CompareText, RenameText, CheckRename, SyncRename, RenameJournal, RemoveJournal, SyncRemoval, RemoveText, CompareInPlace, Ended}

-- at an end
abbrev pub EndsAt : Pair → End → Disk → Type 0
EndsAt p Success d = IsStable p d
EndsAt p InPlace d = IsStable p d
EndsAt p (Error part) d = RecoversTo p d
EndsAt p Unknown d = RecoversTo p d
EndsAt p Late d = RecoversTo p d

-- where every recovery finds one pair
abbrev pub HoldsForOne : Pair → Step → Disk → Type 0
HoldsForOne p FindNewJournal d = RecoversTo p d
HoldsForOne p (FindNewText true) d = RecoversTo p d × HasNew d.journal.current
HoldsForOne p (FindNewText false) d = RecoversTo p d × HasNoNew d.journal.current
HoldsForOne p ReadNewJournal d = (IsRenamed p d ⊎ HasOnlyStray p d) × HasNew d.journal.current
HoldsForOne p RemoveStray d = HasOnlyStray p d
HoldsForOne p SyncRename d = IsRenamed p d × HasNew d.journal.current
HoldsForOne p RenameJournal d = IsRenamed p d × HasNew d.journal.current
HoldsForOne p (RemoveJournal end) d = IsUnrenamed p d
HoldsForOne p (SyncRemoval end) d = IsUnrenamed p d × HasNoNew d.journal.current
HoldsForOne p (RemoveText end) d = IsUnrenamed p d × InAll HasNoNew d.journal
HoldsForOne p CompareInPlace d = IsStable p d
HoldsForOne p (Ended end) d = EndsAt p end d
HoldsForOne p _ d = ⊥

-- where the new text was renamed, which a power loss may still undo
abbrev pub HoldsWhileRenaming : Pair → Pair → Step → Disk → Type 0
HoldsWhileRenaming old new FindNewJournal d = IsRenaming old new d
HoldsWhileRenaming old new (FindNewText true) d = IsRenaming old new d
HoldsWhileRenaming old new ReadNewJournal d = IsRenaming old new d
HoldsWhileRenaming old new SyncRename d = IsRenaming old new d
HoldsWhileRenaming old new (Ended Unknown) d = IsRenaming old new d
HoldsWhileRenaming old new (Ended Late) d = IsRenaming old new d
HoldsWhileRenaming old new _ d = ⊥

-- there are both new files, with these contents
pub record HasNewFiles (p : Pair) (new_text new_journal : File) (d : Disk) : Type 0 where
  pub names : InAll (OwnsWithNew p.text) d.text
  pub text : d.text.current.new ≡ Some new_text
  pub journals : InAll (Owns p.journal) d.journal
  pub journal : d.journal.current.new ≡ Some new_journal

-- and the new journal's name and bytes are durable
abbrev pub IsReady : Pair → Contents → Disk → Type 0
IsReady old s d =
    HasNewFiles old (Durable s.text) (Durable s.journal) d
    × Each (λ n. n.new ≡ Some (Durable s.journal)) d.journal.possible

-- ends that change neither file
abbrev pub ChangesNothing : End → Type 0
ChangesNothing Success = ⊥
ChangesNothing InPlace = Unit {0}
ChangesNothing (Error part) = Unit {0}
ChangesNothing Unknown = ⊥
ChangesNothing Late = ⊥

-- there is a new text with this content, and no new journal
abbrev pub HasNewText : Pair → File → Disk → Type 0
HasNewText p file d = IsUnrenamed p d × (d.text.current.new ≡ Some file) × InAll HasNoNew d.journal

-- in a save
abbrev pub HoldsWhileSaving : Pair → Contents → Step → Disk → Type 0
HoldsWhileSaving old s OpenJournal d = IsStable old d
HoldsWhileSaving old s OpenText d = IsStable old d
HoldsWhileSaving old s SyncEarlierRename d = IsStable old d
HoldsWhileSaving old s CreateText d = IsUnrenamed old d
HoldsWhileSaving old s CopyTextAttributes d = HasNewText old Empty d
HoldsWhileSaving old s WriteText d = HasNewText old Empty d
HoldsWhileSaving old s SyncText d = HasNewText old (Unsynced s.text) d
HoldsWhileSaving old s SyncTextName d = HasNewText old (Durable s.text) d
HoldsWhileSaving old s CreateJournal d =
    InAll (OwnsWithNew old.text) d.text
    × (d.text.current.new ≡ Some (Durable s.text))
    × InAll (OwnsAlone old.journal) d.journal
HoldsWhileSaving old s CopyJournalAttributes d = HasNewFiles old (Durable s.text) Empty d
HoldsWhileSaving old s WriteJournal d = HasNewFiles old (Durable s.text) Empty d
HoldsWhileSaving old s SyncJournal d = HasNewFiles old (Durable s.text) (Unsynced s.journal) d
HoldsWhileSaving old s SyncJournalName d = HasNewFiles old (Durable s.text) (Durable s.journal) d
HoldsWhileSaving old s CompareNewJournal d = IsReady old s d
HoldsWhileSaving old s CompareNewText d = IsReady old s d
HoldsWhileSaving old s CompareText d = IsReady old s d
HoldsWhileSaving old s RenameText d = IsReady old s d
HoldsWhileSaving old s (CheckRename end) d =
    (HasNewFiles old (Durable s.text) (Durable s.journal) d ⊎ IsRenaming old (as_files s) d) × ChangesNothing end
HoldsWhileSaving old s SyncRename d = IsRenaming old (as_files s) d
HoldsWhileSaving old s RenameJournal d = IsRenamed (as_files s) d × HasNew d.journal.current
HoldsWhileSaving old s (RemoveJournal end) d = IsUnrenamed old d × ChangesNothing end
HoldsWhileSaving old s (SyncRemoval end) d = IsUnrenamed old d × HasNoNew d.journal.current × ChangesNothing end
HoldsWhileSaving old s (RemoveText end) d = IsUnrenamed old d × InAll HasNoNew d.journal × ChangesNothing end
HoldsWhileSaving old s CompareInPlace d = IsStable old d
HoldsWhileSaving old s (Ended Success) d = IsStable (as_files s) d × HasNoNewFiles d
HoldsWhileSaving old s (Ended InPlace) d = IsStable old d
HoldsWhileSaving old s (Ended (Error part)) d = IsStable old d
HoldsWhileSaving old s (Ended Unknown) d = IsOldOrNew old (as_files s) d
HoldsWhileSaving old s (Ended Late) d = IsRenaming old (as_files s) d ⊎ RecoversTo (as_files s) d
HoldsWhileSaving old s _ d = ⊥

-- where the new text was renamed
abbrev pub HoldsForNew : Pair → Pair → Step → Disk → Type 0
HoldsForNew old new step d = HoldsWhileRenaming old new step d ⊎ HoldsForOne new step d

-- in a recovery after a save that was interrupted
abbrev pub HoldsInRecovery : Pair → Pair → Step → Disk → Type 0
HoldsInRecovery old new step d = HoldsForOne old step d ⊎ HoldsForNew old new step d
