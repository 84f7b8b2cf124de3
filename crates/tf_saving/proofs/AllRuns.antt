-- The laws of all runs.
use Rattle.std.proofs.Common.{◌≡◌, ◌⊎◌, ℕ, zero, suc, List, [], ◌∷◌, Bool, true, false, Option, Some, None, Result, Ok, Err, inl, inr, refl, sym, subst}
use Rattle.tf_saving.specs.Adoption.{IsAdoptable}
use Rattle.tf_saving.specs.Disk.{File, Names, Directory, Checks, Disk, Contents}
use Rattle.tf_saving.specs.Runs.{Fate, Succeeds, Fails, FailsOnceDone, AnotherSyncs, Event, Recovers, LosesPower, Pair, State, as_files, HasNoNewFiles, stepped, stepped_by, reply, run, saving, recovering, nth, restored, after_event, after_events, all_durable}
use Rattle.tf_saving.specs.Stable.{Each, InAll, Owns, HasNoNew, HasNew, OwnsAlone, HoldsJournal, MayHaveStray, RecoversTo, IsStable}
use Rattle.tf_saving.proofs.Renaming.{OwnsWithNew, IsRenaming, IsOldOrNew}
use Rattle.tf_saving.proofs.Holds.{HoldsForOne, HoldsWhileRenaming, HoldsWhileSaving, HoldsForNew, HoldsInRecovery}
use Rattle.tf_saving.specs.Laws.{InitialIsStable, NothingIsLost, SuccessIsDurable, ErrorsChangeNothing, LateRecoversToNew, RecoveryEnds, UnfailingSaveSucceeds, IsGoingInPlace, FailureIsNotInPlace}
use Rattle.tf_saving.specs.Steps.{choose, finish, call_of, step_after}
use Rattle.tf_saving.specs.declared.call.Syscall.{Syscall}
use Rattle.tf_saving.specs.declared.call.Reply.{Reply}
use Rattle.tf_saving.specs.declared.call.Reply.TheVariants.{Done, NotFound, CannotReplace, Failed}
use Rattle.tf_saving.specs.declared.step.End.{End}
use Rattle.tf_saving.specs.declared.step.End.TheVariants.{Success, InPlace, Error, Unknown, Late}
use Rattle.tf_saving.specs.declared.step.Step.{Step}
use Rattle.tf_saving.specs.declared.step.Step.TheVariants.{FindNewJournal, FindNewText, ReadNewJournal, RemoveStray, OpenJournal, OpenText, SyncEarlierRename, CreateText, CopyTextAttributes, SyncTextName, CreateJournal, CopyJournalAttributes, WriteJournal, SyncJournal, WriteText, SyncText, SyncJournalName, CompareNewJournal, CompareNewText, CompareText, RenameText, CheckRename, SyncRename, RenameJournal, RemoveJournal, SyncRemoval, RemoveText, CompareInPlace, Ended}
use Rattle.tf_saving.proofs.Lists.{always_restored, always_weaker}
use Rattle.tf_saving.proofs.Checks.{stepped_checks}
use Rattle.tf_saving.proofs.Saving.{new_unrenamed, made_unrenamed, rename_or_not, saving_stepped}
use Rattle.tf_saving.proofs.Renamings.{new_stepped, holds_stepped}

holds_run : (p : Pair) (s : Contents) (fates : List Fate) (m : State) → HoldsInRecovery p (as_files s) m.step m.disk
    → HoldsInRecovery p (as_files s) (run s fates m).step (run s fates m).disk
holds_run p s [] m h = h
holds_run p s (fate ∷ fates) m h = holds_run p s fates (stepped s m fate) (holds_stepped p s m.step m.disk fate h)

new_run : (p : Pair) (s : Contents) (fates : List Fate) (m : State) → HoldsForNew p (as_files s) m.step m.disk
    → HoldsForNew p (as_files s) (run s fates m).step (run s fates m).disk
new_run p s [] m h = h
new_run p s (fate ∷ fates) m h = new_run p s fates (stepped s m fate) (new_stepped p s m.step m.disk fate h)

pub saving_run : (p : Pair) (s : Contents) (fates : List Fate) (m : State) → IsAdoptable m.disk.checks (as_files s) → HoldsWhileSaving p s m.step m.disk
    → HoldsWhileSaving p s (run s fates m).step (run s fates m).disk
saving_run p s [] m f h = h
saving_run p s (fate ∷ fates) m f h =
    let can_adopt : IsAdoptable (stepped s m fate).disk.checks (as_files s) = subst (λ (checks : Checks). IsAdoptable checks (as_files s)) (sym (stepped_checks s m fate)) f in
    saving_run p s fates (stepped s m fate) can_adopt (saving_stepped p s m.step m.disk fate f h)

-- --- At each step both files are old or both new ---

pub one_recovers : (p : Pair) (step : Step) (d : Disk) → HoldsForOne p step d → RecoversTo p d
one_recovers p FindNewJournal d h = h
one_recovers p (FindNewText true) d h = h.0
one_recovers p (FindNewText false) d h = h.0
one_recovers p ReadNewJournal d h = inr h.0
one_recovers p RemoveStray d h = inr (inr h)
one_recovers p SyncRename d h = inr (inl h.0)
one_recovers p RenameJournal d h = inr (inl h.0)
one_recovers p (RemoveJournal end) d h = inl h
one_recovers p (SyncRemoval end) d h = inl h.0
one_recovers p (RemoveText end) d h = inl h.0
one_recovers p CompareInPlace d h = h.recovers
one_recovers p (Ended Success) d h = h.recovers
one_recovers p (Ended InPlace) d h = h.recovers
one_recovers p (Ended (Error part)) d h = h
one_recovers p (Ended Unknown) d h = h
one_recovers p (Ended Late) d h = h
one_recovers p step d h = absurd h

saving_safe : (p : Pair) (s : Contents) (step : Step) (d : Disk) → HoldsWhileSaving p s step d → IsOldOrNew p (as_files s) d
saving_safe p s OpenJournal d h = inl h.recovers
saving_safe p s OpenText d h = inl h.recovers
saving_safe p s SyncEarlierRename d h = inl h.recovers
saving_safe p s CreateText d h = inl (inl h)
saving_safe p s CopyTextAttributes d h = inl (inl h.0)
saving_safe p s SyncTextName d h = inl (inl h.0)
saving_safe p s CreateJournal d h = inl (inl (made_unrenamed p s d h))
saving_safe p s CopyJournalAttributes d h = inl (inl (new_unrenamed p _ _ d h))
saving_safe p s WriteJournal d h = inl (inl (new_unrenamed p _ _ d h))
saving_safe p s SyncJournal d h = inl (inl (new_unrenamed p _ _ d h))
saving_safe p s WriteText d h = inl (inl h.0)
saving_safe p s SyncText d h = inl (inl h.0)
saving_safe p s SyncJournalName d h = inl (inl (new_unrenamed p _ _ d h))
saving_safe p s CompareNewJournal d h = inl (inl (new_unrenamed p _ _ d h.0))
saving_safe p s CompareNewText d h = inl (inl (new_unrenamed p _ _ d h.0))
saving_safe p s CompareText d h = inl (inl (new_unrenamed p _ _ d h.0))
saving_safe p s RenameText d h = inl (inl (new_unrenamed p _ _ d h.0))
saving_safe p s (CheckRename end) d h = rename_or_not p s d h.0
saving_safe p s SyncRename d h = inr (inl h)
saving_safe p s RenameJournal d h = inr (inr (inr (inl h.0)))
saving_safe p s (RemoveJournal end) d h = inl (inl h.0)
saving_safe p s (SyncRemoval end) d h = inl (inl h.0)
saving_safe p s (RemoveText end) d h = inl (inl h.0)
saving_safe p s CompareInPlace d h = inl h.recovers
saving_safe p s (Ended Success) d h = inr (inr h.0.recovers)
saving_safe p s (Ended InPlace) d h = inl h.recovers
saving_safe p s (Ended (Error part)) d h = inl h.recovers
saving_safe p s (Ended Late) d (inl h) = inr (inl h)
saving_safe p s (Ended Late) d (inr h) = inr (inr h)
saving_safe p s (Ended Unknown) d h = h
saving_safe p s step d h = absurd h

renaming_safe : (p q : Pair) (step : Step) (d : Disk) → HoldsWhileRenaming p q step d → IsRenaming p q d
renaming_safe p q FindNewJournal d h = h
renaming_safe p q (FindNewText true) d h = h
renaming_safe p q ReadNewJournal d h = h
renaming_safe p q SyncRename d h = h
renaming_safe p q (Ended Unknown) d h = h
renaming_safe p q (Ended Late) d h = h
renaming_safe p q step d h = absurd h

holds_safe : (p q : Pair) (step : Step) (d : Disk) → HoldsInRecovery p q step d → IsOldOrNew p q d
holds_safe p q step d (inl h) = inl (one_recovers p step d h)
holds_safe p q step d (inr (inl h)) = inr (inl (renaming_safe p q step d h))
holds_safe p q step d (inr (inr h)) = inr (inr (one_recovers q step d h))

-- --- A power loss ---

pub recovers_restored : (p : Pair) (s : Contents) (d : Disk) (k l : ℕ) → RecoversTo p d → RecoversTo p (after_event s d (LosesPower k l))
recovers_restored p s d k l (inl b) =
    inl (record {
      text = always_restored (Owns p.text) d.text k b.text;
      journal = always_restored (Owns p.journal) d.journal l b.journal;
      no_lone_journal = elim b.no_lone_journal [ inl no_new ↦ inl (always_restored HasNoNew d.journal l no_new) | inr taken ↦ inr (always_restored HasNew d.text k taken) ];
    })
recovers_restored p s d k l (inr (inl placed)) =
    inr (inl (record {
      can_adopt = placed.can_adopt;
      text = always_restored (OwnsAlone p.text) d.text k placed.text;
      journal = always_restored (HoldsJournal p.journal) d.journal l placed.journal;
    }))
recovers_restored p s d k l (inr (inr strayed)) =
    inr (inr (record {
      text = always_restored (OwnsAlone p.text) d.text k strayed.text;
      journal = always_restored (MayHaveStray d.checks p) d.journal l strayed.journal;
    }))

-- a power loss leaves what the next call finds, or one of the possible contents
restored_has : (P : Names → Type 0) (R : Directory → Type 0) (names : List Names) (k : ℕ) (f : Directory)
    → Each P names → R f → ((n : Names) → P n → R (all_durable n)) → R (restored (nth names k) f)
restored_has P R [] k f h here there = here
restored_has P R (n ∷ ns) zero f h here there = there n h.0
restored_has P R (n ∷ ns) (suc k) f h here there = restored_has P R ns k f h.1 here there

renaming_restored : (p q : Pair) (s : Contents) (d : Disk) (k l : ℕ) → IsRenaming p q d → IsOldOrNew p q (after_event s d (LosesPower k l))
renaming_restored p q s d k l b =
    let journal = restored (nth d.journal.possible l) d.journal in
    let Both : Names → Type 0 = λ n. OwnsWithNew p.journal n × HoldsJournal q.journal n in
    let journals : InAll Both journal = always_restored Both d.journal l b.journal in
    let renamed : Names → Type 0 = λ n. OwnsWithNew p.text n ⊎ OwnsAlone q.text n in
    restored_has renamed (λ f. IsOldOrNew p q (record { text = f; journal = journal; checks = d.checks })) d.text.possible k d.text b.possible
    (inr (inl (record { can_adopt = b.can_adopt; current = b.current; possible = b.possible; journal = journals })))
    (λ n h. elim h [
      | inl claims ↦ inl (inl (record {
        text = (claims.0, (claims.0, tt));
        journal = always_weaker Both (Owns p.journal) (λ m j. j.0.0) journal journals;
        no_lone_journal = inr (claims.1, (claims.1, tt));
      }))
      | inr alone ↦ inr (inr (inr (inl (record {
        can_adopt = b.can_adopt;
        text = (alone, (alone, tt));
        journal = always_weaker Both (HoldsJournal q.journal) (λ m j. j.1) journal journals;
      }))))
    ])

safe_event : (p : Pair) (s : Contents) (d : Disk) (event : Event) → IsOldOrNew p (as_files s) d → IsOldOrNew p (as_files s) (after_event s d event)
safe_event p s d (Recovers fates) h =
    let m = run s fates (recovering d) in
    holds_safe p (as_files s) m.step m.disk (holds_run p s fates (recovering d) h)
safe_event p s d (LosesPower k l) (inl h) = inl (recovers_restored p s d k l h)
safe_event p s d (LosesPower k l) (inr (inl h)) = renaming_restored p (as_files s) s d k l h
safe_event p s d (LosesPower k l) (inr (inr h)) = inr (inr (recovers_restored (as_files s) s d k l h))

safe_events : (p : Pair) (s : Contents) (events : List Event) (d : Disk) → IsOldOrNew p (as_files s) d → IsOldOrNew p (as_files s) (after_events s events d)
safe_events p s [] d h = h
safe_events p s (event ∷ events) d h = safe_events p s events (after_event s d event) (safe_event p s d event h)

holds_at_end : (p q : Pair) (d : Disk) → HoldsInRecovery p q (Ended Success) d → IsStable p d ⊎ IsStable q d
holds_at_end p q d (inl h) = inl h
holds_at_end p q d (inr (inl h)) = absurd h
holds_at_end p q d (inr (inr h)) = inr h

pub initial_is_stable : InitialIsStable
initial_is_stable p checks =
    record {
      recovers = inl (record {
        text = (refl, (refl, tt));
        journal = (refl, (refl, tt));
        no_lone_journal = inl (refl, (refl, tt));
      });
      is_found = refl;
      is_recovered = inl refl;
    }

pub nothing_is_lost : NothingIsLost
nothing_is_lost old d rests s f fates events last ends =
    let stopped = run s fates (saving d) in
    let safe : IsOldOrNew old (as_files s) stopped.disk = saving_safe old s stopped.step stopped.disk (saving_run old s fates (saving d) f rests) in
    let then = after_events s events stopped.disk in
    let next = run s last (recovering then) in
    let holds : HoldsInRecovery old (as_files s) next.step next.disk = holds_run old s last (recovering then) (safe_events old s events stopped.disk safe) in
    holds_at_end old (as_files s) next.disk (subst (λ (step : Step). HoldsInRecovery old (as_files s) step next.disk) ends holds)

pub success_is_durable : SuccessIsDurable
success_is_durable old d rests s f fates ends =
    let m = run s fates (saving d) in
    subst (λ (step : Step). HoldsWhileSaving old s step m.disk) ends (saving_run old s fates (saving d) f rests)

pub errors_change_nothing : ErrorsChangeNothing
errors_change_nothing old d rests s f fates =
    let m = run s fates (saving d) in
    let holds : HoldsWhileSaving old s m.step m.disk = saving_run old s fates (saving d) f rests in
    (λ part ends. subst (λ (step : Step). HoldsWhileSaving old s step m.disk) ends holds, λ ends. subst (λ (step : Step). HoldsWhileSaving old s step m.disk) ends holds)

new_at_end : (p q : Pair) (d : Disk) → HoldsForNew p q (Ended Success) d → IsStable q d
new_at_end p q d (inl h) = absurd h
new_at_end p q d (inr h) = h

late_new : (p q : Pair) (d : Disk) → IsRenaming p q d ⊎ RecoversTo q d → HoldsForNew p q FindNewJournal d
late_new p q d (inl h) = inl h
late_new p q d (inr h) = inr h

pub late_recovers_to_new : LateRecoversToNew
late_recovers_to_new old d rests s f fates ends last is_recovered =
    let m = run s fates (saving d) in
    let late : HoldsWhileSaving old s (Ended Late) m.disk = subst (λ (step : Step). HoldsWhileSaving old s step m.disk) ends (saving_run old s fates (saving d) f rests) in
    let next = run s last (recovering m.disk) in
    let holds : HoldsForNew old (as_files s) next.step next.disk = new_run old s last (recovering m.disk) (late_new old (as_files s) m.disk late) in
    new_at_end old (as_files s) next.disk (subst (λ (step : Step). HoldsForNew old (as_files s) step next.disk) is_recovered holds)

recovers_lone : (s : Contents) (text journal : Option File) (file : File) (texts journals : List Names) (checks : Checks) (can_adopt : Bool) → checks.can_adopt text journal (Some file) ≡ can_adopt
    → let d : Disk = record { text = record { current = record { own = text; new = None }; possible = texts }; journal = record { current = record { own = journal; new = Some file }; possible = journals }; checks = checks } in
    let m = run s (Succeeds ∷ Succeeds ∷ Succeeds ∷ Succeeds ∷ Succeeds ∷ Succeeds ∷ Succeeds ∷ Succeeds ∷ []) (recovering d) in (m.step ≡ Ended Success) × HasNoNewFiles m.disk
recovers_lone s text journal file texts journals checks true e = rw e (refl, (refl, refl))
recovers_lone s text journal file texts journals checks false e = rw e (refl, (refl, refl))

recovers_by : (s : Contents) (text journal new_text new_journal : Option File) (texts journals : List Names) (checks : Checks)
    → let d : Disk = record { text = record { current = record { own = text; new = new_text }; possible = texts }; journal = record { current = record { own = journal; new = new_journal }; possible = journals }; checks = checks } in
    let m = run s (Succeeds ∷ Succeeds ∷ Succeeds ∷ Succeeds ∷ Succeeds ∷ Succeeds ∷ Succeeds ∷ Succeeds ∷ []) (recovering d) in (m.step ≡ Ended Success) × HasNoNewFiles m.disk
recovers_by s text journal None None texts journals checks = (refl, (refl, refl))
recovers_by s text journal None (Some file) texts journals checks =
    recovers_lone s text journal file texts journals checks (checks.can_adopt text journal (Some file)) refl
recovers_by s text journal (Some file) None texts journals checks = (refl, (refl, refl))
recovers_by s text journal (Some file) (Some other) texts journals checks = (refl, (refl, refl))

pub recovery_ends : RecoveryEnds
recovery_ends d s = recovers_by s d.text.current.own d.journal.current.own d.text.current.new d.journal.current.new d.text.possible d.journal.possible d.checks

pub unfailing_save_succeeds : UnfailingSaveSucceeds
unfailing_save_succeeds text None s can_adopt = refl
unfailing_save_succeeds text (Some file) s can_adopt = refl

-- --- A call that fails does not lead to writing in place ---

abbrev IsNoInPlace : End → Type 0
IsNoInPlace InPlace = ⊥
IsNoInPlace _ = Unit {0}

-- steps that never lead to writing in place
abbrev IsNotInPlace : Step → Type 0
IsNotInPlace SyncRename = Unit {0}
IsNotInPlace RenameJournal = Unit {0}
IsNotInPlace (CheckRename end) = IsNoInPlace end
IsNotInPlace (RemoveJournal end) = IsNoInPlace end
IsNotInPlace (SyncRemoval end) = IsNoInPlace end
IsNotInPlace (RemoveText end) = IsNoInPlace end
IsNotInPlace (Ended end) = IsNoInPlace end
IsNotInPlace step = ⊥

not_in_place_chosen : (r : Reply) (x y z : Step) → IsNotInPlace x → IsNotInPlace y → IsNotInPlace z → IsNotInPlace (choose r x y z)
not_in_place_chosen Done x y z h k l = h
not_in_place_chosen NotFound x y z h k l = k
not_in_place_chosen CannotReplace x y z h k l = l
not_in_place_chosen Failed x y z h k l = l

not_in_place_finish : (end : End) → IsNoInPlace end → IsNotInPlace (finish end)
not_in_place_finish Success h = tt
not_in_place_finish InPlace h = absurd h
not_in_place_finish (Error part) h = tt
not_in_place_finish Unknown h = tt
not_in_place_finish Late h = tt

not_in_place_after : (step : Step) (r : Reply) → IsNotInPlace step → IsNotInPlace (step_after step r)
not_in_place_after SyncRename r h = not_in_place_chosen r RenameJournal (Ended Late) (Ended Late) tt tt tt
not_in_place_after RenameJournal r h = not_in_place_chosen r (Ended Success) (Ended Late) (Ended Late) tt tt tt
not_in_place_after (CheckRename end) r h = not_in_place_chosen r (RemoveJournal end) SyncRename (Ended Unknown) h tt tt
not_in_place_after (RemoveJournal end) r h = not_in_place_chosen r (SyncRemoval end) (SyncRemoval end) (finish end) h h (not_in_place_finish end h)
not_in_place_after (SyncRemoval end) r h = not_in_place_chosen r (RemoveText end) (finish end) (finish end) h (not_in_place_finish end h) (not_in_place_finish end h)
not_in_place_after (RemoveText end) r h = not_in_place_finish end h
not_in_place_after (Ended end) r h = h
not_in_place_after step r h = absurd h

not_in_place_stepped : (s : Contents) (m : State) (fate : Fate) (call : Result Syscall End) → IsNotInPlace m.step → IsNotInPlace (stepped_by call s m fate).step
not_in_place_stepped s m fate (Err end) h = h
not_in_place_stepped s m fate (Ok call) h = not_in_place_after m.step (reply call m.disk fate) h

not_in_place_next : (s : Contents) (m : State) (fate : Fate) → IsNotInPlace m.step → IsNotInPlace (stepped s m fate).step
not_in_place_next s m (AnotherSyncs part) h = h
not_in_place_next s m fate h = not_in_place_stepped s m fate (call_of m.step) h

not_in_place_run : (s : Contents) (fates : List Fate) (m : State) → IsNotInPlace m.step → IsNotInPlace (run s fates m).step
not_in_place_run s [] m h = h
not_in_place_run s (fate ∷ fates) m h = not_in_place_run s fates (stepped s m fate) (not_in_place_next s m fate h)

-- after this step's call failed, if it makes one
abbrev IsNotInPlaceOnFailure : Result Syscall End → Step → Type 0
IsNotInPlaceOnFailure (Ok call) step = IsNotInPlace (step_after step Failed)
IsNotInPlaceOnFailure (Err end) step = IsNotInPlace step

other_end : (end : End) → (IsGoingInPlace (Ended end) → ⊥) → IsNoInPlace end
other_end Success u = tt
other_end InPlace u = absurd (u tt)
other_end (Error part) u = tt
other_end Unknown u = tt
other_end Late u = tt

removal_fails : (end : End) → (IsGoingInPlace (RemoveJournal end) → ⊥) → IsNotInPlace (finish end)
removal_fails Success u = tt
removal_fails InPlace u = absurd (u tt)
removal_fails (Error part) u = tt
removal_fails Unknown u = tt
removal_fails Late u = tt

sync_fails : (end : End) → (IsGoingInPlace (SyncRemoval end) → ⊥) → IsNotInPlace (finish end)
sync_fails Success u = tt
sync_fails InPlace u = absurd (u tt)
sync_fails (Error part) u = tt
sync_fails Unknown u = tt
sync_fails Late u = tt

text_removal_fails : (end : End) → (IsGoingInPlace (RemoveText end) → ⊥) → IsNotInPlace (finish end)
text_removal_fails Success u = tt
text_removal_fails InPlace u = absurd (u tt)
text_removal_fails (Error part) u = tt
text_removal_fails Unknown u = tt
text_removal_fails Late u = tt

not_in_place_on_failure : (step : Step) → (IsGoingInPlace step → ⊥) → IsNotInPlaceOnFailure (call_of step) step
not_in_place_on_failure FindNewJournal u = tt
not_in_place_on_failure (FindNewText true) u = tt
not_in_place_on_failure (FindNewText false) u = tt
not_in_place_on_failure ReadNewJournal u = tt
not_in_place_on_failure RemoveStray u = tt
not_in_place_on_failure OpenJournal u = tt
not_in_place_on_failure OpenText u = tt
not_in_place_on_failure SyncEarlierRename u = tt
not_in_place_on_failure CreateText u = tt
not_in_place_on_failure CopyTextAttributes u = tt
not_in_place_on_failure SyncTextName u = tt
not_in_place_on_failure CreateJournal u = tt
not_in_place_on_failure CopyJournalAttributes u = tt
not_in_place_on_failure WriteJournal u = tt
not_in_place_on_failure SyncJournal u = tt
not_in_place_on_failure WriteText u = tt
not_in_place_on_failure SyncText u = tt
not_in_place_on_failure SyncJournalName u = tt
not_in_place_on_failure CompareNewJournal u = tt
not_in_place_on_failure CompareNewText u = tt
not_in_place_on_failure CompareText u = tt
not_in_place_on_failure RenameText u = tt
not_in_place_on_failure (CheckRename end) u = tt
not_in_place_on_failure SyncRename u = tt
not_in_place_on_failure RenameJournal u = tt
not_in_place_on_failure (RemoveJournal end) u = removal_fails end u
not_in_place_on_failure (SyncRemoval end) u = sync_fails end u
not_in_place_on_failure (RemoveText end) u = text_removal_fails end u
not_in_place_on_failure CompareInPlace u = absurd (u tt)
not_in_place_on_failure (Ended end) u = other_end end u

first_fails : (s : Contents) (m : State) (fate : Fate) (call : Result Syscall End) → ((c : Syscall) → reply c m.disk fate ≡ Failed)
    → IsNotInPlaceOnFailure call m.step → IsNotInPlace (stepped_by call s m fate).step
first_fails s m fate (Err end) r h = h
first_fails s m fate (Ok call) r h = subst (λ (x : Reply). IsNotInPlace (step_after m.step x)) (sym (r call)) h

pub failure_is_not_in_place : FailureIsNotInPlace
failure_is_not_in_place m s u fates =
    let h = not_in_place_on_failure m.step u in (
      λ ends. subst IsNotInPlace ends (not_in_place_run s fates (stepped s m Fails) (first_fails s m Fails (call_of m.step) (λ c. refl) h)),
      λ ends. subst IsNotInPlace ends (not_in_place_run s fates (stepped s m FailsOnceDone) (first_fails s m FailsOnceDone (call_of m.step) (λ c. refl) h)),
    )
