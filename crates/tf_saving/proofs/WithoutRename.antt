-- Calls and runs that rename nothing, so that no own file of a part changes.
use Rattle.std.proofs.Common.{◌≡◌, ℕ, List, [], ◌∷◌, Bool, true, false, Option, Some, None, Result}
use Rattle.std.proofs.Common.{Ok, Err, refl, ◌∙◌}
use Rattle.tf_saving.specs.Disk.{File, Directory, Checks, Disk, Contents, created, new_written}
use Rattle.tf_saving.specs.Disk.{new_torn, new_synced, when_done, when_failed, if_same}
use Rattle.tf_saving.specs.Runs.{Fate, Succeeds, Fails, IsRuledOut, FailsOnceDone, AnotherSyncs}
use Rattle.tf_saving.specs.Runs.{State, reply, disk_after, stepped, stepped_by, run}
use Rattle.tf_saving.proofs.Holds.{ChangesNothing}
use Rattle.tf_saving.specs.OtherPrograms.{IsUnchanged}
use Rattle.tf_saving.specs.Steps.{choose, choose_or_in_place, finish, call_of, step_after}
use Rattle.tf_saving.specs.declared.call.SavedFile.{SavedFile}
use Rattle.tf_saving.specs.declared.call.SavedFile.TheVariants.{Text, Journal}
use Rattle.tf_saving.specs.declared.call.Syscall.{Syscall}
use Rattle.tf_saving.specs.declared.call.Syscall.TheVariants.{Open, FindNew, CreateNew}
use Rattle.tf_saving.specs.declared.call.Syscall.TheVariants.{CopyAttributes, Write, Sync}
use Rattle.tf_saving.specs.declared.call.Syscall.TheVariants.{SyncDirectory, CompareNew, Compare}
use Rattle.tf_saving.specs.declared.call.Syscall.TheVariants.{CanAdopt, Rename, Remove}
use Rattle.tf_saving.specs.declared.call.Reply.{Reply}
use Rattle.tf_saving.specs.declared.call.Reply.TheVariants.{Done, NotFound, CannotReplace, Failed}
use Rattle.tf_saving.specs.declared.step.End.{End}
use Rattle.tf_saving.specs.declared.step.End.TheVariants.{Success, InPlace, Error, Unknown, Late}
use Rattle.tf_saving.specs.declared.step.Step.{Step}
use Rattle.tf_saving.specs.declared.step.Step.TheVariants.{CompareInPlace, Ended}
use Rattle.tf_saving.proofs.Checks.{done_checks, fate_checks}

-- --- No call but a rename changes a part's own file ---

abbrev pub IsNoRename : Result Syscall End → Type 0
IsNoRename (Ok (Rename part)) = ⊥
IsNoRename _ = Unit {0}

made_own : (new : Option File) (f : Directory) → (created new f).current.own ≡ f.current.own
made_own None f = refl
made_own (Some file) f = refl

written_own : (bytes : List ℕ) (new : Option File) (f : Directory)
    → (new_written bytes new f).current.own ≡ f.current.own
written_own bytes None f = refl
written_own bytes (Some file) f = refl

torn_own : (new : Option File) (f : Directory) → (new_torn new f).current.own ≡ f.current.own
torn_own None f = refl
torn_own (Some file) f = refl

synced_own : (new : Option File) (f : Directory) → (new_synced new f).current.own ≡ f.current.own
synced_own None f = refl
synced_own (Some file) f = refl

done_unchanged : (call : Syscall) (s : Contents) (d : Disk) → IsNoRename (Ok call)
    → IsUnchanged d (when_done call s d)
done_unchanged (Open part) s d n = (refl, refl)
done_unchanged (FindNew part) s d n = (refl, refl)
done_unchanged (CreateNew Text) s d n = (made_own d.text.current.new d.text, refl)
done_unchanged (CreateNew Journal) s d n = (refl, made_own d.journal.current.new d.journal)
done_unchanged (CopyAttributes part) s d n = (refl, refl)
done_unchanged (Write Text) s d n = (written_own s.text d.text.current.new d.text, refl)
done_unchanged (Write Journal) s d n = (refl, written_own s.journal d.journal.current.new d.journal)
done_unchanged (Sync Text) s d n = (synced_own d.text.current.new d.text, refl)
done_unchanged (Sync Journal) s d n = (refl, synced_own d.journal.current.new d.journal)
done_unchanged (SyncDirectory Text) s d n = (refl, refl)
done_unchanged (SyncDirectory Journal) s d n = (refl, refl)
done_unchanged (CompareNew part) s d n = (refl, refl)
done_unchanged Compare s d n = (refl, refl)
done_unchanged CanAdopt s d n = (refl, refl)
done_unchanged (Remove Text) s d n = (refl, refl)
done_unchanged (Remove Journal) s d n = (refl, refl)
done_unchanged (Rename part) s d n = absurd n

failed_unchanged : (call : Syscall) (d : Disk) → IsUnchanged d (when_failed call d)
failed_unchanged (Write Text) d = (torn_own d.text.current.new d.text, refl)
failed_unchanged (Write Journal) d = (refl, torn_own d.journal.current.new d.journal)
failed_unchanged call d = (refl, refl)

fate_unchanged : (call : Syscall) (s : Contents) (d : Disk) (fate : Fate) → IsNoRename (Ok call)
    → IsUnchanged d (disk_after call s d fate)
fate_unchanged call s d Succeeds n = done_unchanged call s d n
fate_unchanged call s d Fails n = failed_unchanged call d
fate_unchanged call s d IsRuledOut n = failed_unchanged call d
fate_unchanged call s d FailsOnceDone n = done_unchanged call s d n
fate_unchanged call s d (AnotherSyncs part) n = (refl, refl)

-- --- A run that renames nothing ---

-- it holds of the step after this one's call
abbrev pub HoldsAfter : (Step → Type 0) → Step → Disk → Fate → Result Syscall End → Type 0
HoldsAfter IsOn step d fate (Ok call) = IsOn (step_after step (reply call d fate))
HoldsAfter IsOn step d fate (Err end) = IsOn step

-- from such steps a run leads to such steps while the checks stay the same, and renames nothing
pub record RenamesNothing (checks : Checks) (IsOn : Step → Type 0) : Type 0 where
  pub nothing : (step : Step) → IsOn step → IsNoRename (call_of step)
  pub holds_after : (step : Step) (d : Disk) (fate : Fate) → d.checks ≡ checks → IsOn step
      → HoldsAfter IsOn step d fate (call_of step)

unchanged_stepped : (checks : Checks) (IsOn : Step → Type 0) (s : Contents) (m : State)
    (fate : Fate) (call : Result Syscall End) → IsNoRename call → m.disk.checks ≡ checks
    → HoldsAfter IsOn m.step m.disk fate call
    → let n = stepped_by call s m fate in IsUnchanged m.disk n.disk × (n.disk.checks ≡ checks) × IsOn n.step
unchanged_stepped checks IsOn s m fate (Err end) n e h = ((refl, refl), e, h)
unchanged_stepped checks IsOn s m fate (Ok call) n e h =
    (fate_unchanged call s m.disk fate n, fate_checks call s m.disk fate ∙ e, h)

unchanged_next : (checks : Checks) (IsOn : Step → Type 0) → RenamesNothing checks IsOn
    → (s : Contents) (m : State) (fate : Fate) → m.disk.checks ≡ checks → IsOn m.step
    → let n = stepped s m fate in IsUnchanged m.disk n.disk × (n.disk.checks ≡ checks) × IsOn n.step
unchanged_next checks IsOn puts s m (AnotherSyncs part) e h =
    (done_unchanged (SyncDirectory part) s m.disk tt, done_checks (SyncDirectory part) s m.disk ∙ e, h)
unchanged_next checks IsOn puts s m fate e h = unchanged_stepped checks IsOn s m fate (call_of m.step) (puts.nothing m.step h) e (puts.holds_after m.step m.disk fate e h)

pub unchanged_run : (checks : Checks) (IsOn : Step → Type 0) → RenamesNothing checks IsOn
    → (s : Contents) (fates : List Fate) (m : State) → m.disk.checks ≡ checks → IsOn m.step
    → let n = run s fates m in IsUnchanged m.disk n.disk × IsOn n.step
unchanged_run checks IsOn puts s [] m e h = ((refl, refl), h)
unchanged_run checks IsOn puts s (fate ∷ fates) m e h =
    let one = unchanged_next checks IsOn puts s m fate e h in
    let rest = unchanged_run checks IsOn puts s fates (stepped s m fate) one.1 one.2 in
    ((rest.0.0 ∙ one.0.0, rest.0.1 ∙ one.0.1), rest.1)

pub on_chosen : (IsOn : Step → Type 0) (r : Reply) (x y z : Step) → IsOn x → IsOn y → IsOn z
    → IsOn (choose r x y z)
on_chosen IsOn Done x y z h k l = h
on_chosen IsOn NotFound x y z h k l = k
on_chosen IsOn CannotReplace x y z h k l = l
on_chosen IsOn Failed x y z h k l = l

pub on_unless : (IsOn : Step → Type 0) (r : Reply) (x y z : Step) → IsOn x → IsOn y → IsOn z
    → IsOn (choose_or_in_place r x y z)
on_unless IsOn Done x y z h k l = h
on_unless IsOn NotFound x y z h k l = l
on_unless IsOn CannotReplace x y z h k l = k
on_unless IsOn Failed x y z h k l = l

-- a comparison that finds another file
pub on_changed : (IsOn : Step → Type 0) (same : Bool) (x y z : Step) → same ≡ false → IsOn z
    → IsOn (choose (if_same same) x y z)
on_changed IsOn true x y z e l = absurd cc
on_changed IsOn false x y z e l = l

pub on_restored : (IsOn : Step → Type 0) (end : End) → ChangesNothing end → IsOn CompareInPlace
    → ((part : SavedFile) → IsOn (Ended (Error part))) → IsOn (finish end)
on_restored IsOn Success u h k = absurd u
on_restored IsOn InPlace u h k = h
on_restored IsOn (Error part) u h k = k part
on_restored IsOn Unknown u h k = absurd u
on_restored IsOn Late u h k = absurd u
