-- A sync of a directory for another save, at any step, keeps what holds there.
use Rattle.std.proofs.Common.{◌≡◌, ◌⊎◌, true, false, Option, Some, None, inl, inr, refl, ap, ◌∙◌}
use Rattle.tf_saving.specs.Disk.{File, Durable, Unsynced, Empty, Torn, Names, Directory, Checks, Disk, Contents, with_new, directory_synced, new_after_power_loss, after_power_loss, when_done}
use Rattle.tf_saving.specs.Runs.{Pair, as_files}
use Rattle.tf_saving.specs.Stable.{InAll, MayHaveStray, HasOnlyStray, Owns, HasNoNew, HasNew, OwnsAlone, IsUnrenamed, HoldsJournal, IsRenamed, RecoversTo, IsStable}
use Rattle.tf_saving.proofs.Renaming.{OwnsWithNew, IsRenaming, IsOldOrNew}
use Rattle.tf_saving.proofs.Holds.{EndsAt, HoldsForOne, HoldsWhileRenaming, HasNewFiles, HasNewText, IsReady, HoldsWhileSaving}
use Rattle.tf_saving.specs.declared.call.SavedFile.{SavedFile}
use Rattle.tf_saving.specs.declared.call.SavedFile.TheVariants.{Text, Journal}
use Rattle.tf_saving.specs.declared.call.Syscall.TheVariants.{SyncDirectory}
use Rattle.tf_saving.specs.declared.step.End.{End}
use Rattle.tf_saving.specs.declared.step.End.TheVariants.{Success, InPlace, Error, Unknown, Late}
use Rattle.tf_saving.specs.declared.step.Step.{Step}
use Rattle.tf_saving.specs.declared.step.Step.TheVariants.{FindNewJournal, FindNewText, ReadNewJournal, RemoveStray, OpenJournal, OpenText, SyncEarlierRename, CreateText, CopyTextAttributes, SyncTextName, CreateJournal, CopyJournalAttributes, WriteJournal, SyncJournal, WriteText, SyncText, SyncJournalName, CompareNewJournal, CompareNewText, CompareText, RenameText, CheckRename, SyncRename, RenameJournal, RemoveJournal, SyncRemoval, RemoveText, CompareInPlace, Ended}

-- What holds of the names, and of what a power loss makes of them, holds in all once they are synced.
kept_names : (P : Names → Type 0) → ((n : Names) → P n → P (with_new (new_after_power_loss n.new) n)) → (f : Directory) → InAll P f → InAll P (directory_synced f)
kept_names P keep f h = (h.0, (keep f.current h.0, tt))

owns_lost : (file : Option File) (n : Names) → Owns file n → Owns file (with_new (new_after_power_loss n.new) n)
owns_lost file n h = h

no_new_lost : (n : Names) → HasNoNew n → HasNoNew (with_new (new_after_power_loss n.new) n)
no_new_lost n h = ap new_after_power_loss h

taken_lost : (n : Names) → HasNew n → HasNew (with_new (new_after_power_loss n.new) n)
taken_lost n h = (after_power_loss h.0, ap new_after_power_loss h.1)

alone_lost : (file : Option File) (n : Names) → OwnsAlone file n → OwnsAlone file (with_new (new_after_power_loss n.new) n)
alone_lost file n h = (h.0, ap new_after_power_loss h.1)

owns_with_lost : (file : Option File) (n : Names) → OwnsWithNew file n → OwnsWithNew file (with_new (new_after_power_loss n.new) n)
owns_with_lost file n h = (h.0, taken_lost n h.1)

journal_lost : (journal : Option File) (n : Names) → HoldsJournal journal n → HoldsJournal journal (with_new (new_after_power_loss n.new) n)
journal_lost journal n (inl h) = inl (alone_lost journal n h)
journal_lost journal n (inr h) = inr (h.0, ap new_after_power_loss h.1, h.2)

unrenamed_synced : (p : Pair) (part : SavedFile) (s : Contents) (d : Disk) → IsUnrenamed p d → IsUnrenamed p (when_done (SyncDirectory part) s d)
unrenamed_synced p Text s d b =
    record {
      text = kept_names (Owns p.text) (owns_lost p.text) d.text b.text;
      journal = b.journal;
      no_lone_journal = elim b.no_lone_journal [ inl no_new ↦ inl no_new | inr taken ↦ inr (kept_names HasNew taken_lost d.text taken) ];
    }
unrenamed_synced p Journal s d b =
    record {
      text = b.text;
      journal = kept_names (Owns p.journal) (owns_lost p.journal) d.journal b.journal;
      no_lone_journal = elim b.no_lone_journal [ inl no_new ↦ inl (kept_names HasNoNew no_new_lost d.journal no_new) | inr taken ↦ inr taken ];
    }

renamed_synced : (p : Pair) (part : SavedFile) (s : Contents) (d : Disk) → IsRenamed p d → IsRenamed p (when_done (SyncDirectory part) s d)
renamed_synced p Text s d h =
    record { can_adopt = h.can_adopt; text = kept_names (OwnsAlone p.text) (alone_lost p.text) d.text h.text; journal = h.journal }
renamed_synced p Journal s d h =
    record { can_adopt = h.can_adopt; text = h.text; journal = kept_names (HoldsJournal p.journal) (journal_lost p.journal) d.journal h.journal }

lost_twice : (new : Option File) → new_after_power_loss (new_after_power_loss new) ≡ new_after_power_loss new
lost_twice None = refl
lost_twice (Some (Durable bytes)) = refl
lost_twice (Some (Unsynced bytes)) = refl
lost_twice (Some Empty) = refl
lost_twice (Some Torn) = refl

may_have_stray_lost : (checks : Checks) (p : Pair) (n : Names) → MayHaveStray checks p n → MayHaveStray checks p (with_new (new_after_power_loss n.new) n)
may_have_stray_lost checks p n (own, inl no_new) = (own, inl (no_new_lost n no_new))
may_have_stray_lost checks p n (own, inr unadoptable) = (own, inr (unadoptable.1, ap (λ (new : Option File). checks.can_adopt p.text p.journal new) (lost_twice n.new) ∙ unadoptable.1))

stray_synced : (p : Pair) (part : SavedFile) (s : Contents) (d : Disk) → HasOnlyStray p d → HasOnlyStray p (when_done (SyncDirectory part) s d)
stray_synced p Text s d h =
    record { text = kept_names (OwnsAlone p.text) (alone_lost p.text) d.text h.text; journal = h.journal }
stray_synced p Journal s d h =
    record { text = h.text; journal = kept_names (MayHaveStray d.checks p) (may_have_stray_lost d.checks p) d.journal h.journal }

recovers_synced : (p : Pair) (part : SavedFile) (s : Contents) (d : Disk) → RecoversTo p d → RecoversTo p (when_done (SyncDirectory part) s d)
recovers_synced p part s d (inl h) = inl (unrenamed_synced p part s d h)
recovers_synced p part s d (inr (inl h)) = inr (inl (renamed_synced p part s d h))
recovers_synced p part s d (inr (inr h)) = inr (inr (stray_synced p part s d h))

stable_synced : (p : Pair) (part : SavedFile) (s : Contents) (d : Disk) → IsStable p d → IsStable p (when_done (SyncDirectory part) s d)
stable_synced p Text s d h =
    record { recovers = recovers_synced p Text s d h.recovers; is_found = h.is_found; is_recovered = h.is_recovered }
stable_synced p Journal s d h =
    record { recovers = recovers_synced p Journal s d h.recovers; is_found = h.is_found; is_recovered = h.is_recovered }

rename_lost : (p q : Pair) (n : Names) → OwnsWithNew p.text n ⊎ OwnsAlone q.text n → OwnsWithNew p.text (with_new (new_after_power_loss n.new) n) ⊎ OwnsAlone q.text (with_new (new_after_power_loss n.new) n)
rename_lost p q n (inl h) = inl (owns_with_lost p.text n h)
rename_lost p q n (inr h) = inr (alone_lost q.text n h)

renaming_synced : (p q : Pair) (part : SavedFile) (s : Contents) (d : Disk) → IsRenaming p q d → IsRenaming p q (when_done (SyncDirectory part) s d)
renaming_synced p q Text s d h =
    record { can_adopt = h.can_adopt; current = h.current; possible = (inr (alone_lost q.text d.text.current h.current), tt); journal = h.journal }
renaming_synced p q Journal s d h =
    record {
      can_adopt = h.can_adopt;
      current = h.current;
      possible = h.possible;
      journal = kept_names (λ n. OwnsWithNew p.journal n × HoldsJournal q.journal n) (λ n k. (owns_with_lost p.journal n k.0, journal_lost q.journal n k.1)) d.journal h.journal;
    }

safe_synced : (p q : Pair) (part : SavedFile) (s : Contents) (d : Disk) → IsOldOrNew p q d → IsOldOrNew p q (when_done (SyncDirectory part) s d)
safe_synced p q part s d (inl h) = inl (recovers_synced p part s d h)
safe_synced p q part s d (inr (inl h)) = inr (inl (renaming_synced p q part s d h))
safe_synced p q part s d (inr (inr h)) = inr (inr (recovers_synced q part s d h))

files_synced : (p : Pair) (x y : File) (part : SavedFile) (s : Contents) (d : Disk) → HasNewFiles p x y d → HasNewFiles p x y (when_done (SyncDirectory part) s d)
files_synced p x y Text s d b =
    record { names = kept_names (OwnsWithNew p.text) (owns_with_lost p.text) d.text b.names; text = b.text; journals = b.journals; journal = b.journal }
files_synced p x y Journal s d b =
    record { names = b.names; text = b.text; journals = kept_names (Owns p.journal) (owns_lost p.journal) d.journal b.journals; journal = b.journal }

no_new_synced : (part : SavedFile) (s : Contents) (d : Disk) → InAll HasNoNew d.journal → InAll HasNoNew (when_done (SyncDirectory part) s d).journal
no_new_synced Text s d h = h
no_new_synced Journal s d h = kept_names HasNoNew no_new_lost d.journal h

seen_journal : (P : Names → Type 0) (part : SavedFile) (s : Contents) (d : Disk) → P d.journal.current → P (when_done (SyncDirectory part) s d).journal.current
seen_journal P Text s d h = h
seen_journal P Journal s d h = h

ends_synced : (p : Pair) (part : SavedFile) (s : Contents) (end : End) (d : Disk) → EndsAt p end d → EndsAt p end (when_done (SyncDirectory part) s d)
ends_synced p part s Success d h = stable_synced p part s d h
ends_synced p part s InPlace d h = stable_synced p part s d h
ends_synced p part s (Error other) d h = recovers_synced p part s d h
ends_synced p part s Unknown d h = recovers_synced p part s d h
ends_synced p part s Late d h = recovers_synced p part s d h

pub one_synced : (p : Pair) (part : SavedFile) (s : Contents) (step : Step) (d : Disk) → HoldsForOne p step d → HoldsForOne p step (when_done (SyncDirectory part) s d)
one_synced p part s FindNewJournal d h = recovers_synced p part s d h
one_synced p part s (FindNewText true) d h = (recovers_synced p part s d h.0, seen_journal HasNew part s d h.1)
one_synced p part s (FindNewText false) d h = (recovers_synced p part s d h.0, seen_journal HasNoNew part s d h.1)
one_synced p part s ReadNewJournal d (inl h, taken) = (inl (renamed_synced p part s d h), seen_journal HasNew part s d taken)
one_synced p part s ReadNewJournal d (inr h, taken) = (inr (stray_synced p part s d h), seen_journal HasNew part s d taken)
one_synced p part s RemoveStray d h = stray_synced p part s d h
one_synced p part s SyncRename d h = (renamed_synced p part s d h.0, seen_journal HasNew part s d h.1)
one_synced p part s RenameJournal d h = (renamed_synced p part s d h.0, seen_journal HasNew part s d h.1)
one_synced p part s (RemoveJournal end) d h = unrenamed_synced p part s d h
one_synced p part s (SyncRemoval end) d h = (unrenamed_synced p part s d h.0, seen_journal HasNoNew part s d h.1)
one_synced p part s (RemoveText end) d h = (unrenamed_synced p part s d h.0, no_new_synced part s d h.1)
one_synced p part s CompareInPlace d h = stable_synced p part s d h
one_synced p part s (Ended end) d h = ends_synced p part s end d h
one_synced p part s step d h = absurd h

pub renaming_step_synced : (p q : Pair) (part : SavedFile) (s : Contents) (step : Step) (d : Disk) → HoldsWhileRenaming p q step d → HoldsWhileRenaming p q step (when_done (SyncDirectory part) s d)
renaming_step_synced p q part s FindNewJournal d h = renaming_synced p q part s d h
renaming_step_synced p q part s (FindNewText true) d h = renaming_synced p q part s d h
renaming_step_synced p q part s ReadNewJournal d h = renaming_synced p q part s d h
renaming_step_synced p q part s SyncRename d h = renaming_synced p q part s d h
renaming_step_synced p q part s (Ended Unknown) d h = renaming_synced p q part s d h
renaming_step_synced p q part s (Ended Late) d h = renaming_synced p q part s d h
renaming_step_synced p q part s step d h = absurd h

made_synced : (p : Pair) (part : SavedFile) (s : Contents) (d : Disk) → HoldsWhileSaving p s CreateJournal d → HoldsWhileSaving p s CreateJournal (when_done (SyncDirectory part) s d)
made_synced p Text s d h = (kept_names (OwnsWithNew p.text) (owns_with_lost p.text) d.text h.0, h.1, h.2)
made_synced p Journal s d h = (h.0, h.1, kept_names (OwnsAlone p.journal) (alone_lost p.journal) d.journal h.2)

ready_synced : (p : Pair) (part : SavedFile) (s : Contents) (d : Disk) → IsReady p s d → IsReady p s (when_done (SyncDirectory part) s d)
ready_synced p Text s d h = (files_synced p (Durable s.text) (Durable s.journal) Text s d h.0, h.1)
ready_synced p Journal s d h = (files_synced p (Durable s.text) (Durable s.journal) Journal s d h.0, (ap new_after_power_loss h.0.journal, tt))

checks_synced : (p : Pair) (part : SavedFile) (s : Contents) (d : Disk) → HasNewFiles p (Durable s.text) (Durable s.journal) d ⊎ IsRenaming p (as_files s) d
    → HasNewFiles p (Durable s.text) (Durable s.journal) (when_done (SyncDirectory part) s d) ⊎ IsRenaming p (as_files s) (when_done (SyncDirectory part) s d)
checks_synced p part s d (inl h) = inl (files_synced p (Durable s.text) (Durable s.journal) part s d h)
checks_synced p part s d (inr h) = inr (renaming_synced p (as_files s) part s d h)

late_synced : (p q : Pair) (part : SavedFile) (s : Contents) (d : Disk) → IsRenaming p q d ⊎ RecoversTo q d → IsRenaming p q (when_done (SyncDirectory part) s d) ⊎ RecoversTo q (when_done (SyncDirectory part) s d)
late_synced p q part s d (inl h) = inl (renaming_synced p q part s d h)
late_synced p q part s d (inr h) = inr (recovers_synced q part s d h)

tidy_synced : (text : SavedFile) (s : Contents) (d : Disk) → HasNoNew d.text.current × HasNoNew d.journal.current → HasNoNew (when_done (SyncDirectory text) s d).text.current × HasNoNew (when_done (SyncDirectory text) s d).journal.current
tidy_synced Text s d h = h
tidy_synced Journal s d h = h

new_text_synced : (p : Pair) (file : File) (part : SavedFile) (s : Contents) (d : Disk) → HasNewText p file d → HasNewText p file (when_done (SyncDirectory part) s d)
new_text_synced p file Text s d h = (unrenamed_synced p Text s d h.0, h.1, no_new_synced Text s d h.2)
new_text_synced p file Journal s d h = (unrenamed_synced p Journal s d h.0, h.1, no_new_synced Journal s d h.2)

pub saving_synced : (p : Pair) (part : SavedFile) (s : Contents) (step : Step) (d : Disk) → HoldsWhileSaving p s step d → HoldsWhileSaving p s step (when_done (SyncDirectory part) s d)
saving_synced p part s OpenJournal d h = stable_synced p part s d h
saving_synced p part s OpenText d h = stable_synced p part s d h
saving_synced p part s SyncEarlierRename d h = stable_synced p part s d h
saving_synced p part s CreateText d h = unrenamed_synced p part s d h
saving_synced p part s CopyTextAttributes d h = new_text_synced p Empty part s d h
saving_synced p part s WriteText d h = new_text_synced p Empty part s d h
saving_synced p part s SyncText d h = new_text_synced p (Unsynced s.text) part s d h
saving_synced p part s SyncTextName d h = new_text_synced p (Durable s.text) part s d h
saving_synced p part s CreateJournal d h = made_synced p part s d h
saving_synced p part s CopyJournalAttributes d h = files_synced p _ _ part s d h
saving_synced p part s WriteJournal d h = files_synced p _ _ part s d h
saving_synced p part s SyncJournal d h = files_synced p _ _ part s d h
saving_synced p part s SyncJournalName d h = files_synced p _ _ part s d h
saving_synced p part s CompareNewJournal d h = ready_synced p part s d h
saving_synced p part s CompareNewText d h = ready_synced p part s d h
saving_synced p part s CompareText d h = ready_synced p part s d h
saving_synced p part s RenameText d h = ready_synced p part s d h
saving_synced p part s (CheckRename end) d h = (checks_synced p part s d h.0, h.1)
saving_synced p part s SyncRename d h = renaming_synced p (as_files s) part s d h
saving_synced p part s RenameJournal d h = (renamed_synced (as_files s) part s d h.0, seen_journal HasNew part s d h.1)
saving_synced p part s (RemoveJournal end) d h = (unrenamed_synced p part s d h.0, h.1)
saving_synced p part s (SyncRemoval end) d h = (unrenamed_synced p part s d h.0, seen_journal HasNoNew part s d h.1, h.2)
saving_synced p part s (RemoveText end) d h = (unrenamed_synced p part s d h.0, no_new_synced part s d h.1, h.2)
saving_synced p part s CompareInPlace d h = stable_synced p part s d h
saving_synced p part s (Ended Success) d h = (stable_synced (as_files s) part s d h.0, tidy_synced part s d h.1)
saving_synced p part s (Ended InPlace) d h = stable_synced p part s d h
saving_synced p part s (Ended (Error other)) d h = stable_synced p part s d h
saving_synced p part s (Ended Unknown) d h = safe_synced p (as_files s) part s d h
saving_synced p part s (Ended Late) d h = late_synced p (as_files s) part s d h
saving_synced p part s step d h = absurd h
