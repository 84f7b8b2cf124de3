-- Another program changes a file while a command saves.
use Rattle.std.proofs.Common.{◌≡◌, ◌⊎◌, List, [], ◌∷◌, false, Some, inl, inr, refl, sym, subst, ◌∙◌, ap}
use Rattle.tf_saving.specs.Adoption.{IsAdoptable}
use Rattle.tf_saving.specs.Disk.{File, Durable, Unsynced, Empty, Checks, Disk, Contents}
use Rattle.tf_saving.specs.Runs.{Fate, Succeeds, Fails, IsRuledOut, FailsOnceDone, AnotherSyncs, Event, Recovers, LosesPower, Pair, State, as_files, reply, stepped, run, saving, recovering, after_event, after_events}
use Rattle.tf_saving.specs.Stable.{InAll, Owns, HasNew, IsUnrenamed, RecoversTo}
use Rattle.tf_saving.proofs.Renaming.{OwnsWithNew}
use Rattle.tf_saving.proofs.Holds.{HoldsForOne, HasNewFiles, ChangesNothing, HoldsWhileSaving}
use Rattle.tf_saving.specs.OtherPrograms.{CreatesNewFiles, PreparesRename, PrecedesRename, IsError, IsInPlace, ChangedTextIsKept, ForeignFileIsNotRenamed, with_text, edited, EditIsKept}
use Rattle.tf_saving.specs.Steps.{finish, call_of}
use Rattle.tf_saving.specs.declared.call.SavedFile.{SavedFile}
use Rattle.tf_saving.specs.declared.call.SavedFile.TheVariants.{Text, Journal}
use Rattle.tf_saving.specs.declared.call.Syscall.TheVariants.{Open, CreateNew, CopyAttributes, Write, Sync, SyncDirectory, CompareNew, Compare, Remove}
use Rattle.tf_saving.specs.declared.step.End.{End}
use Rattle.tf_saving.specs.declared.step.End.TheVariants.{InPlace, Error}
use Rattle.tf_saving.specs.declared.step.Step.{Step}
use Rattle.tf_saving.specs.declared.step.Step.TheVariants.{OpenJournal, OpenText, SyncEarlierRename, CreateText, CopyTextAttributes, SyncTextName, CreateJournal, CopyJournalAttributes, WriteJournal, SyncJournal, WriteText, SyncText, SyncJournalName, CompareNewJournal, CompareNewText, CompareText, RenameText, RemoveJournal, SyncRemoval, RemoveText, CompareInPlace, Ended}
use Rattle.tf_saving.proofs.Lists.{each_map}
use Rattle.tf_saving.proofs.Checks.{stepped_checks}
use Rattle.tf_saving.proofs.Recovering.{one_stepped}
use Rattle.tf_saving.proofs.Saving.{new_unrenamed, made_unrenamed}
use Rattle.tf_saving.proofs.AllRuns.{one_recovers, recovers_restored, saving_run}
use Rattle.tf_saving.proofs.WithoutRename.{IsNoRename, HoldsAfter, RenamesNothing}
use Rattle.tf_saving.proofs.WithoutRename.{unchanged_run, on_chosen, on_unless, on_changed, on_restored}

-- --- The text has changed ---

abbrev IsLeaving : Step → Type 0
IsLeaving (RemoveJournal end) = ChangesNothing end
IsLeaving (SyncRemoval end) = ChangesNothing end
IsLeaving (RemoveText end) = ChangesNothing end
IsLeaving CompareInPlace = Unit {0}
IsLeaving (Ended (Error part)) = Unit {0}
IsLeaving step = PrecedesRename step

precedes_leaves : (step : Step) → PrecedesRename step → IsLeaving step
precedes_leaves OpenJournal h = tt
precedes_leaves OpenText h = tt
precedes_leaves SyncEarlierRename h = tt
precedes_leaves CreateText h = tt
precedes_leaves CopyTextAttributes h = tt
precedes_leaves SyncTextName h = tt
precedes_leaves CreateJournal h = tt
precedes_leaves CopyJournalAttributes h = tt
precedes_leaves WriteJournal h = tt
precedes_leaves SyncJournal h = tt
precedes_leaves WriteText h = tt
precedes_leaves SyncText h = tt
precedes_leaves SyncJournalName h = tt
precedes_leaves CompareNewJournal h = tt
precedes_leaves CompareNewText h = tt
precedes_leaves CompareText h = tt
precedes_leaves step h = absurd h

leaving_puts_nothing : (step : Step) → IsLeaving step → IsNoRename (call_of step)
leaving_puts_nothing OpenJournal h = tt
leaving_puts_nothing OpenText h = tt
leaving_puts_nothing SyncEarlierRename h = tt
leaving_puts_nothing CreateText h = tt
leaving_puts_nothing CopyTextAttributes h = tt
leaving_puts_nothing SyncTextName h = tt
leaving_puts_nothing CreateJournal h = tt
leaving_puts_nothing CopyJournalAttributes h = tt
leaving_puts_nothing WriteJournal h = tt
leaving_puts_nothing SyncJournal h = tt
leaving_puts_nothing WriteText h = tt
leaving_puts_nothing SyncText h = tt
leaving_puts_nothing SyncJournalName h = tt
leaving_puts_nothing CompareNewJournal h = tt
leaving_puts_nothing CompareNewText h = tt
leaving_puts_nothing CompareText h = tt
leaving_puts_nothing (RemoveJournal end) h = tt
leaving_puts_nothing (SyncRemoval end) h = tt
leaving_puts_nothing (RemoveText end) h = tt
leaving_puts_nothing CompareInPlace h = tt
leaving_puts_nothing (Ended end) h = tt
leaving_puts_nothing step h = absurd h

leaving_step : (checks : Checks) → checks.is_unchanged ≡ false → (step : Step) (d : Disk) (fate : Fate) → d.checks ≡ checks → IsLeaving step → HoldsAfter IsLeaving step d fate (call_of step)
leaving_step checks c OpenJournal d fate e h = on_chosen (IsLeaving) (reply (Open Journal) d fate) OpenText OpenText (Ended (Error Journal)) tt tt tt
leaving_step checks c OpenText d fate e h = on_chosen (IsLeaving) (reply (Open Text) d fate) SyncEarlierRename (Ended (Error Text)) (Ended (Error Text)) tt tt tt
leaving_step checks c SyncEarlierRename d fate e h = on_unless (IsLeaving) (reply (SyncDirectory Journal) d fate) CreateText CompareInPlace (Ended (Error Journal)) tt tt tt
leaving_step checks c CreateText d fate e h = on_unless (IsLeaving) (reply (CreateNew Text) d fate) CopyTextAttributes CompareInPlace (RemoveJournal (Error Text)) tt tt tt
leaving_step checks c CopyTextAttributes d fate e h = on_unless (IsLeaving) (reply (CopyAttributes Text) d fate) WriteText (RemoveText InPlace) (RemoveText (Error Text)) tt tt tt
leaving_step checks c SyncTextName d fate e h = on_unless (IsLeaving) (reply (SyncDirectory Text) d fate) CreateJournal (RemoveText InPlace) (RemoveText (Error Text)) tt tt tt
leaving_step checks c CreateJournal d fate e h = on_unless (IsLeaving) (reply (CreateNew Journal) d fate) CopyJournalAttributes (RemoveText InPlace) (RemoveJournal (Error Journal)) tt tt tt
leaving_step checks c CopyJournalAttributes d fate e h = on_unless (IsLeaving) (reply (CopyAttributes Journal) d fate) WriteJournal (RemoveJournal InPlace) (RemoveJournal (Error Journal)) tt tt tt
leaving_step checks c WriteJournal d fate e h = on_chosen (IsLeaving) (reply (Write Journal) d fate) SyncJournal (RemoveJournal (Error Journal)) (RemoveJournal (Error Journal)) tt tt tt
leaving_step checks c SyncJournal d fate e h = on_chosen (IsLeaving) (reply (Sync Journal) d fate) SyncJournalName (RemoveJournal (Error Journal)) (RemoveJournal (Error Journal)) tt tt tt
leaving_step checks c WriteText d fate e h = on_chosen (IsLeaving) (reply (Write Text) d fate) SyncText (RemoveText (Error Text)) (RemoveText (Error Text)) tt tt tt
leaving_step checks c SyncText d fate e h = on_chosen (IsLeaving) (reply (Sync Text) d fate) SyncTextName (RemoveText (Error Text)) (RemoveText (Error Text)) tt tt tt
leaving_step checks c SyncJournalName d fate e h = on_unless (IsLeaving) (reply (SyncDirectory Journal) d fate) CompareNewJournal (RemoveJournal InPlace) (RemoveJournal (Error Journal)) tt tt tt
leaving_step checks c CompareNewJournal d fate e h = on_chosen (IsLeaving) (reply (CompareNew Journal) d fate) CompareNewText (RemoveJournal (Error Journal)) (RemoveJournal (Error Journal)) tt tt tt
leaving_step checks c CompareNewText d fate e h = on_chosen (IsLeaving) (reply (CompareNew Text) d fate) CompareText (RemoveJournal (Error Text)) (RemoveJournal (Error Text)) tt tt tt
leaving_step checks c CompareText d Succeeds e h = on_changed IsLeaving d.checks.is_unchanged RenameText (RemoveJournal (Error Text)) (RemoveJournal (Error Text)) (ap (λ (l : Checks). l.is_unchanged) e ∙ c) tt
leaving_step checks c CompareText d Fails e h = tt
leaving_step checks c CompareText d IsRuledOut e h = tt
leaving_step checks c CompareText d FailsOnceDone e h = tt
leaving_step checks c CompareText d (AnotherSyncs part) e h = tt
leaving_step checks c (RemoveJournal end) d fate e h = on_chosen (IsLeaving) (reply (Remove Journal) d fate) (SyncRemoval end) (SyncRemoval end) (finish end) h h (on_restored (IsLeaving) end h tt (λ other. tt))
leaving_step checks c (SyncRemoval end) d fate e h = on_chosen (IsLeaving) (reply (SyncDirectory Journal) d fate) (RemoveText end) (finish end) (finish end) h (on_restored (IsLeaving) end h tt (λ other. tt)) (on_restored (IsLeaving) end h tt (λ other. tt))
leaving_step checks c (RemoveText end) d fate e h = on_restored (IsLeaving) end h tt (λ other. tt)
leaving_step checks c CompareInPlace d Succeeds e h = on_changed IsLeaving d.checks.is_unchanged (Ended InPlace) (Ended (Error Text)) (Ended (Error Text)) (ap (λ (l : Checks). l.is_unchanged) e ∙ c) tt
leaving_step checks c CompareInPlace d Fails e h = tt
leaving_step checks c CompareInPlace d IsRuledOut e h = tt
leaving_step checks c CompareInPlace d FailsOnceDone e h = tt
leaving_step checks c CompareInPlace d (AnotherSyncs part) e h = tt
leaving_step checks c (Ended end) d fate e h = h
leaving_step checks c step d fate e h = absurd h

leaving_puts : (checks : Checks) → checks.is_unchanged ≡ false → RenamesNothing checks IsLeaving
leaving_puts checks c = record { nothing = leaving_puts_nothing; holds_after = leaving_step checks c }

leaving_ends : (end : End) → IsLeaving (Ended end) → IsError end
leaving_ends (Error part) h = tt
leaving_ends end h = absurd h

pub changed_text_is_kept : ChangedTextIsKept
changed_text_is_kept m s h c fates =
    let n = unchanged_run m.disk.checks IsLeaving (leaving_puts m.disk.checks c) s fates m refl (precedes_leaves m.step h) in
    (n.0, λ end ends. leaving_ends end (subst IsLeaving ends n.1))

-- --- A new file is not the one that was created ---

abbrev IsKeeping : SavedFile → Step → Type 0
IsKeeping part (RemoveJournal end) = ChangesNothing end
IsKeeping part (SyncRemoval end) = ChangesNothing end
IsKeeping part (RemoveText end) = ChangesNothing end
IsKeeping part CompareInPlace = Unit {0}
IsKeeping part (Ended InPlace) = Unit {0}
IsKeeping part (Ended (Error other)) = Unit {0}
IsKeeping Text CompareNewText = Unit {0}
IsKeeping part step = CreatesNewFiles step

creates_keeps : (part : SavedFile) (step : Step) → CreatesNewFiles step → IsKeeping part step
creates_keeps part CreateText h = tt
creates_keeps part CopyTextAttributes h = tt
creates_keeps part SyncTextName h = tt
creates_keeps part CreateJournal h = tt
creates_keeps part CopyJournalAttributes h = tt
creates_keeps part WriteJournal h = tt
creates_keeps part SyncJournal h = tt
creates_keeps part WriteText h = tt
creates_keeps part SyncText h = tt
creates_keeps part SyncJournalName h = tt
creates_keeps part CompareNewJournal h = tt
creates_keeps part step h = absurd h

keeping_puts_nothing : (part : SavedFile) (step : Step) → IsKeeping part step → IsNoRename (call_of step)
keeping_puts_nothing part CreateText h = tt
keeping_puts_nothing part CopyTextAttributes h = tt
keeping_puts_nothing part SyncTextName h = tt
keeping_puts_nothing part CreateJournal h = tt
keeping_puts_nothing part CopyJournalAttributes h = tt
keeping_puts_nothing part WriteJournal h = tt
keeping_puts_nothing part SyncJournal h = tt
keeping_puts_nothing part WriteText h = tt
keeping_puts_nothing part SyncText h = tt
keeping_puts_nothing part SyncJournalName h = tt
keeping_puts_nothing part CompareNewJournal h = tt
keeping_puts_nothing part (RemoveJournal end) h = tt
keeping_puts_nothing part (SyncRemoval end) h = tt
keeping_puts_nothing part (RemoveText end) h = tt
keeping_puts_nothing part CompareInPlace h = tt
keeping_puts_nothing part (Ended end) h = tt
keeping_puts_nothing Text CompareNewText h = tt
keeping_puts_nothing part step h = absurd h

keeping_step : (checks : Checks) (part : SavedFile) → checks.is_ours part ≡ false → (step : Step) (d : Disk) (fate : Fate) → d.checks ≡ checks → IsKeeping part step → HoldsAfter (IsKeeping part) step d fate (call_of step)
keeping_step checks part c CreateText d fate e h = on_unless (IsKeeping part) (reply (CreateNew Text) d fate) CopyTextAttributes CompareInPlace (RemoveJournal (Error Text)) tt tt tt
keeping_step checks part c CopyTextAttributes d fate e h = on_unless (IsKeeping part) (reply (CopyAttributes Text) d fate) WriteText (RemoveText InPlace) (RemoveText (Error Text)) tt tt tt
keeping_step checks part c SyncTextName d fate e h = on_unless (IsKeeping part) (reply (SyncDirectory Text) d fate) CreateJournal (RemoveText InPlace) (RemoveText (Error Text)) tt tt tt
keeping_step checks part c CreateJournal d fate e h = on_unless (IsKeeping part) (reply (CreateNew Journal) d fate) CopyJournalAttributes (RemoveText InPlace) (RemoveJournal (Error Journal)) tt tt tt
keeping_step checks part c CopyJournalAttributes d fate e h = on_unless (IsKeeping part) (reply (CopyAttributes Journal) d fate) WriteJournal (RemoveJournal InPlace) (RemoveJournal (Error Journal)) tt tt tt
keeping_step checks part c WriteJournal d fate e h = on_chosen (IsKeeping part) (reply (Write Journal) d fate) SyncJournal (RemoveJournal (Error Journal)) (RemoveJournal (Error Journal)) tt tt tt
keeping_step checks part c SyncJournal d fate e h = on_chosen (IsKeeping part) (reply (Sync Journal) d fate) SyncJournalName (RemoveJournal (Error Journal)) (RemoveJournal (Error Journal)) tt tt tt
keeping_step checks part c WriteText d fate e h = on_chosen (IsKeeping part) (reply (Write Text) d fate) SyncText (RemoveText (Error Text)) (RemoveText (Error Text)) tt tt tt
keeping_step checks part c SyncText d fate e h = on_chosen (IsKeeping part) (reply (Sync Text) d fate) SyncTextName (RemoveText (Error Text)) (RemoveText (Error Text)) tt tt tt
keeping_step checks part c SyncJournalName d fate e h = on_unless (IsKeeping part) (reply (SyncDirectory Journal) d fate) CompareNewJournal (RemoveJournal InPlace) (RemoveJournal (Error Journal)) tt tt tt
keeping_step checks Text c CompareNewJournal d fate e h = on_chosen (IsKeeping Text) (reply (CompareNew Journal) d fate) CompareNewText (RemoveJournal (Error Journal)) (RemoveJournal (Error Journal)) tt tt tt
keeping_step checks Journal c CompareNewJournal d Succeeds e h = on_changed (IsKeeping Journal) (d.checks.is_ours Journal) CompareNewText (RemoveJournal (Error Journal)) (RemoveJournal (Error Journal)) (ap (λ (l : Checks). l.is_ours Journal) e ∙ c) tt
keeping_step checks Journal c CompareNewJournal d Fails e h = tt
keeping_step checks Journal c CompareNewJournal d IsRuledOut e h = tt
keeping_step checks Journal c CompareNewJournal d FailsOnceDone e h = tt
keeping_step checks Journal c CompareNewJournal d (AnotherSyncs other) e h = tt
keeping_step checks Text c CompareNewText d Succeeds e h = on_changed (IsKeeping Text) (d.checks.is_ours Text) CompareText (RemoveJournal (Error Text)) (RemoveJournal (Error Text)) (ap (λ (l : Checks). l.is_ours Text) e ∙ c) tt
keeping_step checks Text c CompareNewText d Fails e h = tt
keeping_step checks Text c CompareNewText d IsRuledOut e h = tt
keeping_step checks Text c CompareNewText d FailsOnceDone e h = tt
keeping_step checks Text c CompareNewText d (AnotherSyncs other) e h = tt
keeping_step checks part c (RemoveJournal end) d fate e h = on_chosen (IsKeeping part) (reply (Remove Journal) d fate) (SyncRemoval end) (SyncRemoval end) (finish end) h h (on_restored (IsKeeping part) end h tt (λ other. tt))
keeping_step checks part c (SyncRemoval end) d fate e h = on_chosen (IsKeeping part) (reply (SyncDirectory Journal) d fate) (RemoveText end) (finish end) (finish end) h (on_restored (IsKeeping part) end h tt (λ other. tt)) (on_restored (IsKeeping part) end h tt (λ other. tt))
keeping_step checks part c (RemoveText end) d fate e h = on_restored (IsKeeping part) end h tt (λ other. tt)
keeping_step checks part c CompareInPlace d fate e h = on_chosen (IsKeeping part) (reply Compare d fate) (Ended InPlace) (Ended (Error Text)) (Ended (Error Text)) tt tt tt
keeping_step checks part c (Ended end) d fate e h = h
keeping_step checks part c step d fate e h = absurd h

keeping_puts : (checks : Checks) (part : SavedFile) → checks.is_ours part ≡ false → RenamesNothing checks (IsKeeping part)
keeping_puts checks part c = record { nothing = keeping_puts_nothing part; holds_after = keeping_step checks part c }

keeping_ends : (part : SavedFile) (end : End) → IsKeeping part (Ended end) → IsError end ⊎ IsInPlace end
keeping_ends part (Error other) h = inl tt
keeping_ends part InPlace h = inr tt
keeping_ends part end h = absurd h

pub foreign_file_is_not_renamed : ForeignFileIsNotRenamed
foreign_file_is_not_renamed m s h part c fates =
    let n = unchanged_run m.disk.checks (IsKeeping part) (keeping_puts m.disk.checks part c) s fates m refl (creates_keeps part m.step h) in
    (n.0, λ end ends. keeping_ends part end (subst (IsKeeping part) ends n.1))

-- --- Another program writes the text ---

abbrev as_edited : File → Pair → Pair
as_edited file p = record { text = Some file; journal = p.journal }

edited_unrenamed : (p : Pair) (m : State) (file : File) → IsUnrenamed p m.disk → IsUnrenamed (as_edited file p) (edited file m).disk
edited_unrenamed p m file b =
    record {
      text = (refl, each_map (Owns p.text) (Owns (Some file)) (with_text file) (λ n h. refl) m.disk.text.possible b.text.1);
      journal = b.journal;
      no_lone_journal = elim b.no_lone_journal [ inl no_new ↦ inl no_new | inr taken ↦ inr (taken.0, each_map HasNew HasNew (with_text file) (λ n h. h) m.disk.text.possible taken.1) ];
    }

edited_owns_with : (p : Pair) (m : State) (file : File) → InAll (OwnsWithNew p.text) m.disk.text → InAll (OwnsWithNew (Some file)) (edited file m).disk.text
edited_owns_with p m file h = ((refl, h.0.1), each_map (OwnsWithNew p.text) (OwnsWithNew (Some file)) (with_text file) (λ n k. (refl, k.1)) m.disk.text.possible h.1)

edited_new : (p : Pair) (x y : File) (m : State) (file : File) → HasNewFiles p x y m.disk → HasNewFiles (as_edited file p) x y (edited file m).disk
edited_new p x y m file b = record { names = edited_owns_with p m file b.names; text = b.text; journals = b.journals; journal = b.journal }

edited_saving : (p : Pair) (s : Contents) (file : File) (step : Step) (d : Disk) → PreparesRename step → HoldsWhileSaving p s step d
    → HoldsWhileSaving (as_edited file p) s step (edited file (record { step = step; disk = d })).disk
edited_saving p s file CreateText d u h = edited_unrenamed p (record { step = CreateText; disk = d }) file h
edited_saving p s file CopyTextAttributes d u h = (edited_unrenamed p (record { step = CopyTextAttributes; disk = d }) file h.0, h.1, h.2)
edited_saving p s file SyncTextName d u h = (edited_unrenamed p (record { step = SyncTextName; disk = d }) file h.0, h.1, h.2)
edited_saving p s file CreateJournal d u h = (edited_owns_with p (record { step = CreateJournal; disk = d }) file h.0, h.1, h.2)
edited_saving p s file CopyJournalAttributes d u h = edited_new p (Durable s.text) Empty (record { step = CopyJournalAttributes; disk = d }) file h
edited_saving p s file WriteJournal d u h = edited_new p (Durable s.text) Empty (record { step = WriteJournal; disk = d }) file h
edited_saving p s file SyncJournal d u h = edited_new p (Durable s.text) (Unsynced s.journal) (record { step = SyncJournal; disk = d }) file h
edited_saving p s file WriteText d u h = (edited_unrenamed p (record { step = WriteText; disk = d }) file h.0, h.1, h.2)
edited_saving p s file SyncText d u h = (edited_unrenamed p (record { step = SyncText; disk = d }) file h.0, h.1, h.2)
edited_saving p s file SyncJournalName d u h = edited_new p (Durable s.text) (Durable s.journal) (record { step = SyncJournalName; disk = d }) file h
edited_saving p s file CompareNewJournal d u h = (edited_new p (Durable s.text) (Durable s.journal) (record { step = CompareNewJournal; disk = d }) file h.0, h.1)
edited_saving p s file CompareNewText d u h = (edited_new p (Durable s.text) (Durable s.journal) (record { step = CompareNewText; disk = d }) file h.0, h.1)
edited_saving p s file CompareText d u h = (edited_new p (Durable s.text) (Durable s.journal) (record { step = CompareText; disk = d }) file h.0, h.1)
edited_saving p s file step d u h = absurd u

prepares_leaves : (step : Step) → PreparesRename step → IsLeaving step
prepares_leaves CreateText h = tt
prepares_leaves CopyTextAttributes h = tt
prepares_leaves SyncTextName h = tt
prepares_leaves CreateJournal h = tt
prepares_leaves CopyJournalAttributes h = tt
prepares_leaves WriteJournal h = tt
prepares_leaves SyncJournal h = tt
prepares_leaves WriteText h = tt
prepares_leaves SyncText h = tt
prepares_leaves SyncJournalName h = tt
prepares_leaves CompareNewJournal h = tt
prepares_leaves CompareNewText h = tt
prepares_leaves CompareText h = tt
prepares_leaves step h = absurd h

leaving_recovers : (p : Pair) (s : Contents) (step : Step) (d : Disk) → IsLeaving step → HoldsWhileSaving p s step d → RecoversTo p d
leaving_recovers p s OpenJournal d l h = h.recovers
leaving_recovers p s OpenText d l h = h.recovers
leaving_recovers p s SyncEarlierRename d l h = h.recovers
leaving_recovers p s CreateText d l h = inl h
leaving_recovers p s CopyTextAttributes d l h = inl h.0
leaving_recovers p s SyncTextName d l h = inl h.0
leaving_recovers p s CreateJournal d l h = inl (made_unrenamed p s d h)
leaving_recovers p s CopyJournalAttributes d l h = inl (new_unrenamed p _ _ d h)
leaving_recovers p s WriteJournal d l h = inl (new_unrenamed p _ _ d h)
leaving_recovers p s SyncJournal d l h = inl (new_unrenamed p _ _ d h)
leaving_recovers p s WriteText d l h = inl h.0
leaving_recovers p s SyncText d l h = inl h.0
leaving_recovers p s SyncJournalName d l h = inl (new_unrenamed p _ _ d h)
leaving_recovers p s CompareNewJournal d l h = inl (new_unrenamed p _ _ d h.0)
leaving_recovers p s CompareNewText d l h = inl (new_unrenamed p _ _ d h.0)
leaving_recovers p s CompareText d l h = inl (new_unrenamed p _ _ d h.0)
leaving_recovers p s (RemoveJournal end) d l h = inl h.0
leaving_recovers p s (SyncRemoval end) d l h = inl h.0
leaving_recovers p s (RemoveText end) d l h = inl h.0
leaving_recovers p s CompareInPlace d l h = h.recovers
leaving_recovers p s (Ended (Error part)) d l h = h.recovers
leaving_recovers p s step d l h = absurd l

pub one_run : (p : Pair) (s : Contents) (fates : List Fate) (m : State) → HoldsForOne p m.step m.disk → HoldsForOne p (run s fates m).step (run s fates m).disk
one_run p s [] m h = h
one_run p s (fate ∷ fates) m h = one_run p s fates (stepped s m fate) (one_stepped p s m.step m.disk fate h)

pub recovers_events : (p : Pair) (s : Contents) (events : List Event) (d : Disk) → RecoversTo p d → RecoversTo p (after_events s events d)
recovers_events p s [] d h = h
recovers_events p s (Recovers fates ∷ events) d h =
    let m = run s fates (recovering d) in
    recovers_events p s events m.disk (one_recovers p m.step m.disk (one_run p s fates (recovering d) h))
recovers_events p s (LosesPower k l ∷ events) d h = recovers_events p s events (after_event s d (LosesPower k l)) (recovers_restored p s d k l h)

run_checks : (s : Contents) (fates : List Fate) (m : State) → (run s fates m).disk.checks ≡ m.disk.checks
run_checks s [] m = refl
run_checks s (fate ∷ fates) m = run_checks s fates (stepped s m fate) ∙ stepped_checks s m fate

pub edit_is_kept : EditIsKept
edit_is_kept old d rests s f before u theirs fates events last ends =
    let m = run s before (saving d) in
    let p = as_edited theirs old in
    let can_adopt : IsAdoptable m.disk.checks (as_files s) = subst (λ (checks : Checks). IsAdoptable checks (as_files s)) (sym (run_checks s before (saving d))) f in
    let saved : HoldsWhileSaving p s m.step (edited theirs m).disk = edited_saving old s theirs m.step m.disk u (saving_run old s before (saving d) f rests) in
    let n = run s fates (edited theirs m) in
    let checks = (edited theirs m).disk.checks in
    let leaving = unchanged_run checks IsLeaving (leaving_puts checks refl) s fates (edited theirs m) refl (prepares_leaves m.step u) in
    let recovers : RecoversTo p n.disk = leaving_recovers p s n.step n.disk leaving.1 (saving_run p s fates (edited theirs m) can_adopt saved) in
    let next = run s last (recovering (after_events s events n.disk)) in
    let holds : HoldsForOne p next.step next.disk = one_run p s last (recovering (after_events s events n.disk)) (recovers_events p s events n.disk recovers) in
    subst (λ (step : Step). HoldsForOne p step next.disk) ends holds
