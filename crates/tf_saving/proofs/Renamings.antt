-- The calls of a recovery, while a power loss may still undo a rename.
use Rattle.std.proofs.Common.{◌≡◌, true, false, Option, Some, None, inl, inr, refl}
use Rattle.tf_saving.specs.Disk.{File, Durable, Disk, Contents, if_found, if_adoptable}
use Rattle.tf_saving.specs.Steps.{choose}
use Rattle.tf_saving.specs.Runs.{Fate, Succeeds, Fails, IsRuledOut, FailsOnceDone, AnotherSyncs}
use Rattle.tf_saving.specs.Runs.{Pair, as_files, stepped}
use Rattle.tf_saving.proofs.Renaming.{IsRenaming}
use Rattle.tf_saving.proofs.Holds.{HoldsWhileRenaming, HoldsForNew, HoldsInRecovery}
use Rattle.tf_saving.specs.declared.step.End.TheVariants.{Success, Unknown, Late}
use Rattle.tf_saving.specs.declared.step.Step.{Step}
use Rattle.tf_saving.specs.declared.step.Step.TheVariants.{FindNewJournal, FindNewText}
use Rattle.tf_saving.specs.declared.step.Step.TheVariants.{ReadNewJournal, RemoveStray, SyncRename}
use Rattle.tf_saving.specs.declared.step.Step.TheVariants.{RemoveJournal, Ended}
use Rattle.tf_saving.proofs.OtherSaves.{renaming_step_synced}
use Rattle.tf_saving.proofs.Checks.{new_is, adoptable_seen, if_it_adoptable}
use Rattle.tf_saving.proofs.Recovering.{one_stepped}
use Rattle.tf_saving.proofs.Saving.{text_rename_kept}

renaming_checks : (p : Pair) (s : Contents) (d : Disk) (new : Option File)
    → d.journal.current.new ≡ new → IsRenaming p (as_files s) d
    → HoldsForNew p (as_files s) (choose (if_found new) (FindNewText true) (FindNewText false) (Ended Unknown)) d
renaming_checks p s d None e b = absurd (let is = b.journal.0.0.1.1 in cc)
renaming_checks p s d (Some file) e b = inl b

renaming_finds : (p : Pair) (s : Contents) (d : Disk) (new : Option File) → d.text.current.new ≡ new
    → IsRenaming p (as_files s) d
    → HoldsForNew p (as_files s) (choose (if_found new) (RemoveJournal Success) ReadNewJournal (Ended Unknown)) d
renaming_finds p s d None e b = inl b
renaming_finds p s d (Some file) e b = absurd (let is = b.current.1 in cc)

renaming_adoptable : (p : Pair) (s : Contents) (d : Disk) → IsRenaming p (as_files s) d
    → HoldsForNew p (as_files s) (choose (if_adoptable (d.checks.can_adopt d.text.current.own d.journal.current.own d.journal.current.new)) SyncRename RemoveStray (Ended Unknown)) d
renaming_adoptable p s d b =
    if_it_adoptable (λ (step : Step). HoldsForNew p (as_files s) step d) (d.checks.can_adopt d.text.current.own d.journal.current.own d.journal.current.new) SyncRename RemoveStray (Ended Unknown)
    (adoptable_seen (as_files s) d b.can_adopt b.current.0 (new_is (Some (Durable s.journal)) d.journal.current b.journal.0.1 b.journal.0.0.1))
    (inl b)

pub renaming_stepped : (p : Pair) (s : Contents) (step : Step) (d : Disk) (fate : Fate)
    → HoldsWhileRenaming p (as_files s) step d
    → let m = stepped s (record { step = step; disk = d }) fate in HoldsForNew p (as_files s) m.step m.disk
renaming_stepped p s step d (AnotherSyncs part) h = inl (renaming_step_synced p (as_files s) part s step d h)
renaming_stepped p s FindNewJournal d Succeeds h = renaming_checks p s d d.journal.current.new refl h
renaming_stepped p s FindNewJournal d Fails h = inl h
renaming_stepped p s FindNewJournal d IsRuledOut h = inl h
renaming_stepped p s FindNewJournal d FailsOnceDone h = inl h
renaming_stepped p s (FindNewText true) d Succeeds h = renaming_finds p s d d.text.current.new refl h
renaming_stepped p s (FindNewText true) d Fails h = inl h
renaming_stepped p s (FindNewText true) d IsRuledOut h = inl h
renaming_stepped p s (FindNewText true) d FailsOnceDone h = inl h
renaming_stepped p s ReadNewJournal d Succeeds h = renaming_adoptable p s d h
renaming_stepped p s ReadNewJournal d Fails h = inl h
renaming_stepped p s ReadNewJournal d IsRuledOut h = inl h
renaming_stepped p s ReadNewJournal d FailsOnceDone h = inl h
renaming_stepped p s SyncRename d Succeeds h = inr (text_rename_kept p (as_files s) d h, h.journal.0.0.1)
renaming_stepped p s SyncRename d Fails h = inl h
renaming_stepped p s SyncRename d IsRuledOut h = inl h
renaming_stepped p s SyncRename d FailsOnceDone h = inr (inr (inl (text_rename_kept p (as_files s) d h)))
renaming_stepped p s (Ended Unknown) d fate h = inl h
renaming_stepped p s (Ended Late) d fate h = inl h
renaming_stepped p s step d fate h = absurd h

pub new_stepped : (p : Pair) (s : Contents) (step : Step) (d : Disk) (fate : Fate)
    → HoldsForNew p (as_files s) step d
    → let m = stepped s (record { step = step; disk = d }) fate in HoldsForNew p (as_files s) m.step m.disk
new_stepped p s step d fate (inl h) = renaming_stepped p s step d fate h
new_stepped p s step d fate (inr h) = inr (one_stepped (as_files s) s step d fate h)

pub holds_stepped : (p : Pair) (s : Contents) (step : Step) (d : Disk) (fate : Fate)
    → HoldsInRecovery p (as_files s) step d
    → let m = stepped s (record { step = step; disk = d }) fate in HoldsInRecovery p (as_files s) m.step m.disk
holds_stepped p s step d fate (inl h) = inl (one_stepped p s step d fate h)
holds_stepped p s step d fate (inr h) = inr (new_stepped p s step d fate h)
