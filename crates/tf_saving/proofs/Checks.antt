-- No call of a save changes what a command finds out by comparing and reading.
use Rattle.std.proofs.Common.{◌≡◌, Bool, true, false, Option, Result, Ok, Err, inl, inr, refl, sym, ◌∙◌}
use Rattle.tf_saving.specs.Adoption.{IsAdoptable}
use Rattle.tf_saving.specs.Disk.{File, Names, Directory, Checks, Disk, Contents, with_directory, when_done, when_failed, if_adoptable}
use Rattle.tf_saving.specs.Runs.{Fate, Succeeds, Fails, IsRuledOut, FailsOnceDone, AnotherSyncs, Pair, State, disk_after, stepped, stepped_by}
use Rattle.tf_saving.specs.Stable.{HasNew, HoldsJournal, MayHaveStray}
use Rattle.tf_saving.specs.Steps.{choose, call_of}
use Rattle.tf_saving.specs.declared.call.SavedFile.{SavedFile}
use Rattle.tf_saving.specs.declared.call.SavedFile.TheVariants.{Text, Journal}
use Rattle.tf_saving.specs.declared.call.Syscall.{Syscall}
use Rattle.tf_saving.specs.declared.call.Syscall.TheVariants.{Open, FindNew, CreateNew, CopyAttributes, Write, Sync, SyncDirectory, CompareNew, Compare, CanAdopt, Rename, Remove}
use Rattle.tf_saving.specs.declared.step.End.{End}
use Rattle.tf_saving.specs.declared.step.Step.{Step}

with_checks : (part : SavedFile) (f : Directory) (d : Disk) → (with_directory part f d).checks ≡ d.checks
with_checks Text f d = refl
with_checks Journal f d = refl

pub done_checks : (call : Syscall) (s : Contents) (d : Disk) → (when_done call s d).checks ≡ d.checks
done_checks (Open part) s d = refl
done_checks (FindNew part) s d = refl
done_checks (CreateNew part) s d = with_checks part _ d
done_checks (CopyAttributes part) s d = refl
done_checks (Write part) s d = with_checks part _ d
done_checks (Sync part) s d = with_checks part _ d
done_checks (SyncDirectory part) s d = with_checks part _ d
done_checks (CompareNew part) s d = refl
done_checks Compare s d = refl
done_checks CanAdopt s d = refl
done_checks (Rename part) s d = with_checks part _ d
done_checks (Remove part) s d = with_checks part _ d

failed_checks : (call : Syscall) (d : Disk) → (when_failed call d).checks ≡ d.checks
failed_checks (Write part) d = with_checks part _ d
failed_checks call d = refl

pub fate_checks : (call : Syscall) (s : Contents) (d : Disk) (fate : Fate) → (disk_after call s d fate).checks ≡ d.checks
fate_checks call s d Succeeds = done_checks call s d
fate_checks call s d Fails = failed_checks call d
fate_checks call s d IsRuledOut = failed_checks call d
fate_checks call s d FailsOnceDone = done_checks call s d
fate_checks call s d (AnotherSyncs part) = refl

stepped_checks_by : (s : Contents) (m : State) (fate : Fate) (call : Result Syscall End) → (stepped_by call s m fate).disk.checks ≡ m.disk.checks
stepped_checks_by s m fate (Err end) = refl
stepped_checks_by s m fate (Ok call) = fate_checks call s m.disk fate

pub stepped_checks : (s : Contents) (m : State) (fate : Fate) → (stepped s m fate).disk.checks ≡ m.disk.checks
stepped_checks s m (AnotherSyncs part) = done_checks (SyncDirectory part) s m.disk
stepped_checks s m fate = stepped_checks_by s m fate (call_of m.step)

-- the new file is the journal
pub new_is : (journal : Option File) (n : Names) → HoldsJournal journal n → HasNew n → n.new ≡ journal
new_is journal n (inl h) taken = absurd (let was = h.1 in let is = taken.1 in cc)
new_is journal n (inr h) taken = h.1 ∙ sym h.2

pub adoptable_seen : (p : Pair) (d : Disk) → IsAdoptable d.checks p → d.text.current.own ≡ p.text → d.journal.current.new ≡ p.journal
    → d.checks.can_adopt d.text.current.own d.journal.current.own d.journal.current.new ≡ true
adoptable_seen p d can_adopt text journal = rw (text, journal) (can_adopt d.journal.current.own)

stray_new : (checks : Checks) (p : Pair) (n : Names) → MayHaveStray checks p n → HasNew n → checks.can_adopt p.text p.journal n.new ≡ false
stray_new checks p n (own, inl no_new) taken = absurd (let is = taken.1 in cc)
stray_new checks p n (own, inr unadoptable) taken = unadoptable.0

pub unadoptable_seen : (p : Pair) (d : Disk) → MayHaveStray d.checks p d.journal.current → HasNew d.journal.current → d.text.current.own ≡ p.text
    → d.checks.can_adopt d.text.current.own d.journal.current.own d.journal.current.new ≡ false
unadoptable_seen p d stray taken text = rw (text, stray.0) (stray_new d.checks p d.journal.current stray taken)

pub if_it_adoptable : (IsOn : Step → Type 0) (b : Bool) (x y z : Step) → b ≡ true → IsOn x → IsOn (choose (if_adoptable b) x y z)
if_it_adoptable IsOn true x y z e h = h
if_it_adoptable IsOn false x y z e h = absurd cc

pub if_it_strays : (IsOn : Step → Type 0) (b : Bool) (x y z : Step) → b ≡ false → IsOn y → IsOn (choose (if_adoptable b) x y z)
if_it_strays IsOn true x y z e h = absurd cc
if_it_strays IsOn false x y z e h = h
