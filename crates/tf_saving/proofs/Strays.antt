-- A new journal that may not be adopted.
use Rattle.std.proofs.Common.{◌≡◌, List, [], ◌∷◌, Bool, true, false, Option, Some, None, inr, refl, subst, ◌∙◌}
use Rattle.tf_saving.specs.Disk.{File, Disk, Contents, when_done, with_directory, new_removed, directory_synced, if_found, if_same, if_adoptable}
use Rattle.tf_saving.specs.Runs.{Fate, Succeeds, Fails, IsRuledOut, FailsOnceDone, AnotherSyncs, State, stepped, run, recovering, after_events}
use Rattle.tf_saving.specs.Stable.{HasOnlyStray}
use Rattle.tf_saving.proofs.Holds.{HoldsForOne}
use Rattle.tf_saving.specs.Laws.{StrayIsNotAdopted, UnadoptableIsNotAdopted}
use Rattle.tf_saving.specs.OtherPrograms.{IsUnchanged}
use Rattle.tf_saving.specs.Steps.{choose, finish}
use Rattle.tf_saving.specs.declared.call.SavedFile.{SavedFile}
use Rattle.tf_saving.specs.declared.call.SavedFile.TheVariants.{Text, Journal}
use Rattle.tf_saving.specs.declared.call.Syscall.TheVariants.{SyncDirectory}
use Rattle.tf_saving.specs.declared.step.End.{End}
use Rattle.tf_saving.specs.declared.step.End.TheVariants.{Success, InPlace, Error, Unknown, Late}
use Rattle.tf_saving.specs.declared.step.Step.{Step}
use Rattle.tf_saving.specs.declared.step.Step.TheVariants.{FindNewJournal, FindNewText, ReadNewJournal, RemoveStray, SyncRename, RemoveJournal, SyncRemoval, RemoveText, CompareInPlace, Ended}
use Rattle.tf_saving.proofs.OtherPrograms.{one_run, recovers_events}

pub stray_is_not_adopted : StrayIsNotAdopted
stray_is_not_adopted p stray checks unfit s events last ends =
    let d : Disk = record {
      text = record { current = record { own = p.text; new = None }; possible = record { own = p.text; new = None } ∷ [] };
      journal = record { current = record { own = p.journal; new = Some stray }; possible = record { own = p.journal; new = Some stray } ∷ [] };
      checks = checks;
    } in
    let strayed : HasOnlyStray p d = record { text = ((refl, refl), ((refl, refl), tt)); journal = ((refl, inr unfit), ((refl, inr unfit), tt)) } in
    let next = run s last (recovering (after_events s events d)) in
    let holds : HoldsForOne p next.step next.disk = one_run p s last (recovering (after_events s events d)) (recovers_events p s events d (inr (inr strayed))) in
    subst (λ (step : Step). HoldsForOne p step next.disk) ends holds

-- --- On any disk ---

abbrev IsUnadoptable : Disk → Type 0
IsUnadoptable d = d.checks.can_adopt d.text.current.own d.journal.current.own d.journal.current.new ≡ false

-- steps from which no journal is adopted
abbrev AdoptsNothing : Disk → Step → Type 0
AdoptsNothing d FindNewJournal = IsUnadoptable d
AdoptsNothing d (FindNewText has_journal) = IsUnadoptable d
AdoptsNothing d ReadNewJournal = IsUnadoptable d
AdoptsNothing d RemoveStray = Unit {0}
AdoptsNothing d (RemoveJournal end) = Unit {0}
AdoptsNothing d (SyncRemoval end) = Unit {0}
AdoptsNothing d (RemoveText end) = Unit {0}
AdoptsNothing d CompareInPlace = Unit {0}
AdoptsNothing d (Ended end) = Unit {0}
AdoptsNothing d step = ⊥

restored_adopts_nothing : (end : End) (d : Disk) → AdoptsNothing d (finish end)
restored_adopts_nothing Success d = tt
restored_adopts_nothing InPlace d = tt
restored_adopts_nothing (Error part) d = tt
restored_adopts_nothing Unknown d = tt
restored_adopts_nothing Late d = tt

looked : (d : Disk) (file : Option File) (x y z : Step) → AdoptsNothing d x → AdoptsNothing d y → AdoptsNothing d (choose (if_found file) x y z)
looked d None x y z h k = k
looked d (Some file) x y z h k = h

unadoptable_adopts_nothing : (d : Disk) (can_adopt : Bool) → can_adopt ≡ false → AdoptsNothing d (choose (if_adoptable can_adopt) SyncRename RemoveStray (Ended Unknown))
unadoptable_adopts_nothing d true e = absurd cc
unadoptable_adopts_nothing d false e = tt

same_adopts_nothing : (d : Disk) (same : Bool) → AdoptsNothing d (choose (if_same same) (Ended InPlace) (Ended (Error Text)) (Ended (Error Text)))
same_adopts_nothing d true = tt
same_adopts_nothing d false = tt

-- a sync of a directory changes neither file
synced_unchanged : (part : SavedFile) (s : Contents) (d : Disk) → IsUnchanged d (when_done (SyncDirectory part) s d)
synced_unchanged Text s d = (refl, refl)
synced_unchanged Journal s d = (refl, refl)

synced_adopts_nothing : (s : Contents) (part : SavedFile) (step : Step) (d : Disk) → AdoptsNothing d step
    → let n = when_done (SyncDirectory part) s d in IsUnchanged d n × AdoptsNothing n step
synced_adopts_nothing s Text FindNewJournal d h = ((refl, refl), h)
synced_adopts_nothing s Text (FindNewText has_journal) d h = ((refl, refl), h)
synced_adopts_nothing s Text ReadNewJournal d h = ((refl, refl), h)
synced_adopts_nothing s Journal FindNewJournal d h = ((refl, refl), h)
synced_adopts_nothing s Journal (FindNewText has_journal) d h = ((refl, refl), h)
synced_adopts_nothing s Journal ReadNewJournal d h = ((refl, refl), h)
synced_adopts_nothing s part RemoveStray d h = (synced_unchanged part s d, tt)
synced_adopts_nothing s part (RemoveJournal end) d h = (synced_unchanged part s d, tt)
synced_adopts_nothing s part (SyncRemoval end) d h = (synced_unchanged part s d, tt)
synced_adopts_nothing s part (RemoveText end) d h = (synced_unchanged part s d, tt)
synced_adopts_nothing s part CompareInPlace d h = (synced_unchanged part s d, tt)
synced_adopts_nothing s part (Ended end) d h = (synced_unchanged part s d, tt)
synced_adopts_nothing s part step d h = absurd h

adopts_nothing_stepped : (s : Contents) (step : Step) (d : Disk) (fate : Fate) → AdoptsNothing d step
    → let n = stepped s (record { step = step; disk = d }) fate in IsUnchanged d n.disk × AdoptsNothing n.disk n.step
adopts_nothing_stepped s step d (AnotherSyncs part) h = synced_adopts_nothing s part step d h
adopts_nothing_stepped s FindNewJournal d Succeeds h = ((refl, refl), looked d d.journal.current.new (FindNewText true) (FindNewText false) (Ended Unknown) h h)
adopts_nothing_stepped s FindNewJournal d Fails h = ((refl, refl), tt)
adopts_nothing_stepped s FindNewJournal d IsRuledOut h = ((refl, refl), tt)
adopts_nothing_stepped s FindNewJournal d FailsOnceDone h = ((refl, refl), tt)
adopts_nothing_stepped s (FindNewText true) d Succeeds h = ((refl, refl), looked d d.text.current.new (RemoveJournal Success) ReadNewJournal (Ended Unknown) tt h)
adopts_nothing_stepped s (FindNewText true) d Fails h = ((refl, refl), tt)
adopts_nothing_stepped s (FindNewText true) d IsRuledOut h = ((refl, refl), tt)
adopts_nothing_stepped s (FindNewText true) d FailsOnceDone h = ((refl, refl), tt)
adopts_nothing_stepped s (FindNewText false) d Succeeds h = ((refl, refl), looked d d.text.current.new (RemoveJournal Success) (Ended Success) (Ended Unknown) tt tt)
adopts_nothing_stepped s (FindNewText false) d Fails h = ((refl, refl), tt)
adopts_nothing_stepped s (FindNewText false) d IsRuledOut h = ((refl, refl), tt)
adopts_nothing_stepped s (FindNewText false) d FailsOnceDone h = ((refl, refl), tt)
adopts_nothing_stepped s ReadNewJournal d Succeeds h = ((refl, refl), unadoptable_adopts_nothing d (d.checks.can_adopt d.text.current.own d.journal.current.own d.journal.current.new) h)
adopts_nothing_stepped s ReadNewJournal d Fails h = ((refl, refl), tt)
adopts_nothing_stepped s ReadNewJournal d IsRuledOut h = ((refl, refl), tt)
adopts_nothing_stepped s ReadNewJournal d FailsOnceDone h = ((refl, refl), tt)
adopts_nothing_stepped s RemoveStray d Succeeds h = ((refl, refl), looked (with_directory Journal (new_removed d.journal) d) d.journal.current.new (Ended Success) (Ended Success) (Ended (Error Journal)) tt tt)
adopts_nothing_stepped s RemoveStray d Fails h = ((refl, refl), tt)
adopts_nothing_stepped s RemoveStray d IsRuledOut h = ((refl, refl), tt)
adopts_nothing_stepped s RemoveStray d FailsOnceDone h = ((refl, refl), tt)
adopts_nothing_stepped s (RemoveJournal end) d Succeeds h = ((refl, refl), looked (with_directory Journal (new_removed d.journal) d) d.journal.current.new (SyncRemoval end) (SyncRemoval end) (finish end) tt tt)
adopts_nothing_stepped s (RemoveJournal end) d Fails h = ((refl, refl), restored_adopts_nothing end d)
adopts_nothing_stepped s (RemoveJournal end) d IsRuledOut h = ((refl, refl), restored_adopts_nothing end d)
adopts_nothing_stepped s (RemoveJournal end) d FailsOnceDone h = ((refl, refl), restored_adopts_nothing end (with_directory Journal (new_removed d.journal) d))
adopts_nothing_stepped s (SyncRemoval end) d Succeeds h = ((refl, refl), tt)
adopts_nothing_stepped s (SyncRemoval end) d Fails h = ((refl, refl), restored_adopts_nothing end d)
adopts_nothing_stepped s (SyncRemoval end) d IsRuledOut h = ((refl, refl), restored_adopts_nothing end d)
adopts_nothing_stepped s (SyncRemoval end) d FailsOnceDone h = ((refl, refl), restored_adopts_nothing end (with_directory Journal (directory_synced d.journal) d))
adopts_nothing_stepped s (RemoveText end) d Succeeds h = ((refl, refl), restored_adopts_nothing end (with_directory Text (new_removed d.text) d))
adopts_nothing_stepped s (RemoveText end) d Fails h = ((refl, refl), restored_adopts_nothing end d)
adopts_nothing_stepped s (RemoveText end) d IsRuledOut h = ((refl, refl), restored_adopts_nothing end d)
adopts_nothing_stepped s (RemoveText end) d FailsOnceDone h = ((refl, refl), restored_adopts_nothing end (with_directory Text (new_removed d.text) d))
adopts_nothing_stepped s CompareInPlace d Succeeds h = ((refl, refl), same_adopts_nothing d d.checks.is_unchanged)
adopts_nothing_stepped s CompareInPlace d Fails h = ((refl, refl), tt)
adopts_nothing_stepped s CompareInPlace d IsRuledOut h = ((refl, refl), tt)
adopts_nothing_stepped s CompareInPlace d FailsOnceDone h = ((refl, refl), tt)
adopts_nothing_stepped s (Ended end) d fate h = ((refl, refl), tt)
adopts_nothing_stepped s step d fate h = absurd h

adopts_nothing_run : (s : Contents) (fates : List Fate) (m : State) → AdoptsNothing m.disk m.step → IsUnchanged m.disk (run s fates m).disk
adopts_nothing_run s [] m h = (refl, refl)
adopts_nothing_run s (fate ∷ fates) m h =
    let one = adopts_nothing_stepped s m.step m.disk fate h in
    let rest = adopts_nothing_run s fates (stepped s m fate) one.1 in
    (rest.0 ∙ one.0.0, rest.1 ∙ one.0.1)

pub unadoptable_is_not_adopted : UnadoptableIsNotAdopted
unadoptable_is_not_adopted d s fates unfit = adopts_nothing_run s fates (recovering d) unfit
