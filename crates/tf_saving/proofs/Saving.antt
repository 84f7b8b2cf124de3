-- Each call of a save, and of the recovery after it, keeps what holds at its step.
use Rattle.std.proofs.Common.{◌≡◌, ◌⊎◌, Bool, true, false, Option, Some, None, inl, inr, refl, ap}
use Rattle.tf_saving.specs.Adoption.{IsAdoptable}
use Rattle.tf_saving.specs.Disk.{File, Durable, Unsynced, Empty, Torn, Names, Disk, Contents, with_own, with_directory, created, new_written, new_torn, new_synced, if_new, replaced_new, directory_synced, renamed, new_removed, new_after_power_loss, if_found, if_not_found, if_same}
use Rattle.tf_saving.specs.Steps.{choose, choose_or_in_place, finish}
use Rattle.tf_saving.specs.Runs.{Fate, Succeeds, Fails, IsRuledOut, FailsOnceDone, AnotherSyncs, Pair, as_files, stepped}
use Rattle.tf_saving.specs.Stable.{InAll, Owns, HasNoNew, HasNew, OwnsAlone, IsUnrenamed, HoldsJournal, IsRenamed, RecoversTo, IsStable}
use Rattle.tf_saving.proofs.Renaming.{OwnsWithNew, IsRenaming, IsOldOrNew}
use Rattle.tf_saving.proofs.Holds.{HasNewFiles, HasNewText, IsReady, ChangesNothing, HoldsWhileSaving}
use Rattle.tf_saving.specs.declared.call.SavedFile.{SavedFile}
use Rattle.tf_saving.specs.declared.call.SavedFile.TheVariants.{Text, Journal}
use Rattle.tf_saving.specs.declared.step.End.{End}
use Rattle.tf_saving.specs.declared.step.End.TheVariants.{Success, InPlace, Error, Unknown, Late}
use Rattle.tf_saving.specs.declared.step.Step.{Step}
use Rattle.tf_saving.specs.declared.step.Step.TheVariants.{OpenJournal, OpenText, SyncEarlierRename, CreateText, CopyTextAttributes, SyncTextName, CreateJournal, CopyJournalAttributes, WriteJournal, SyncJournal, WriteText, SyncText, SyncJournalName, CompareNewJournal, CompareNewText, CompareText, RenameText, CheckRename, SyncRename, RenameJournal, RemoveJournal, SyncRemoval, RemoveText, CompareInPlace, Ended}
use Rattle.tf_saving.proofs.Lists.{each_or_changed, each_weaker, always_weaker, each_both, always_both}
use Rattle.tf_saving.proofs.OtherSaves.{saving_synced}
use Rattle.tf_saving.proofs.Recovering.{owns_kept, unrenamed_stable, rename_journal, journal_rename, journal_removed, removal_kept, text_removed}

-- --- The changes that a save makes ---

own_in : (new : Option File) (file : File) (own : Option File) (n : Names) → Owns own n → Owns own (replaced_new new file n)
own_in None file own n h = h
own_in (Some other) file own n h = h

taken_in : (new : Option File) (file : File) (n : Names) → HasNew n → HasNew (replaced_new new file n)
taken_in None file n h = h
taken_in (Some other) file n h = (file, refl)

owns_with_in : (own : Option File) (file : File) (n : Names) → OwnsWithNew own n → OwnsWithNew own (if_new file n)
owns_with_in own file n h = (own_in n.new file own n h.0, taken_in n.new file n h.1)

owns_of_owns_with : (own : Option File) (n : Names) → OwnsWithNew own n → Owns own n
owns_of_owns_with own n h = h.0

pub new_unrenamed : (p : Pair) (x y : File) (d : Disk) → HasNewFiles p x y d → IsUnrenamed p d
new_unrenamed p x y d b =
    record {
      text = always_weaker (OwnsWithNew p.text) (Owns p.text) (owns_of_owns_with p.text) d.text b.names;
      journal = b.journals;
      no_lone_journal = inr (always_weaker (OwnsWithNew p.text) HasNew (λ n h. h.1) d.text b.names);
    }

open_journal : (p : Pair) (s : Contents) (d : Disk) (own : Option File) → IsStable p d
    → HoldsWhileSaving p s (choose (if_found own) OpenText OpenText (Ended (Error Journal))) d
open_journal p s d None h = h
open_journal p s d (Some file) h = h

open_text : (p : Pair) (s : Contents) (d : Disk) (own : Option File) → IsStable p d
    → HoldsWhileSaving p s (choose (if_found own) SyncEarlierRename (Ended (Error Text)) (Ended (Error Text))) d
open_text p s d None h = h
open_text p s d (Some file) h = h

-- after it no power loss brings back the journal of an earlier save
old_names_kept : (p : Pair) (d : Disk) → IsStable p d → IsUnrenamed p (with_directory Journal (directory_synced d.journal) d)
old_names_kept p d r = kept_of r.recovers
  where
    kept_of : RecoversTo p d → IsUnrenamed p (with_directory Journal (directory_synced d.journal) d)
    kept_of (inl b) =
        record {
          text = b.text;
          journal = (b.journal.0, (b.journal.0, tt));
          no_lone_journal = elim b.no_lone_journal [ inl no_new ↦ inl (no_new.0, (ap new_after_power_loss no_new.0, tt)) | inr taken ↦ inr taken ];
        }
    kept_of (inr (inr strayed)) =
        let no_new : HasNoNew d.journal.current = elim r.is_recovered [ inl no_new ↦ no_new | inr taken ↦ absurd (let was = strayed.text.0.1 in let is = taken.1 in cc) ] in
        record {
          text = always_weaker (OwnsAlone p.text) (Owns p.text) (λ n h. h.0) d.text strayed.text;
          journal = (strayed.journal.0.0, (strayed.journal.0.0, tt));
          no_lone_journal = inl (no_new, (ap new_after_power_loss no_new, tt));
        }
    kept_of (inr (inl placed)) =
        let no_new : HasNoNew d.journal.current = elim r.is_recovered [ inl no_new ↦ no_new | inr taken ↦ absurd (let was = placed.text.0.1 in let is = taken.1 in cc) ] in
        record {
          text = always_weaker (OwnsAlone p.text) (Owns p.text) (λ n h. h.0) d.text placed.text;
          journal = (ap (λ (q : Pair). q.journal) r.is_found, (ap (λ (q : Pair). q.journal) r.is_found, tt));
          no_lone_journal = inl (no_new, (ap new_after_power_loss no_new, tt));
        }

make_text : (p : Pair) (s : Contents) (d : Disk) (new : Option File) → d.text.current.new ≡ new → IsUnrenamed p d
    → HoldsWhileSaving p s (choose_or_in_place (if_not_found new) CopyTextAttributes CompareInPlace (RemoveJournal (Error Text))) (with_directory Text (created new d.text) d)
make_text p s d None e b =
    let no_new : InAll HasNoNew d.journal = elim b.no_lone_journal [ inl no_new ↦ no_new | inr taken ↦ absurd (let is = taken.0.1 in cc) ] in (
      record {
        text = (b.text.0, owns_kept p.text (Some Torn) d.text.possible b.text.1);
        journal = b.journal;
        no_lone_journal = inl no_new;
      },
      refl,
      no_new,
    )
make_text p s d (Some file) e b = unrenamed_stable p d b

text_name_kept : (p : Pair) (s : Contents) (d : Disk) → HoldsWhileSaving p s SyncTextName d → HoldsWhileSaving p s CreateJournal (with_directory Text (directory_synced d.text) d)
text_name_kept p s d h =
    (((h.0.text.0, (Durable s.text, h.1)), ((h.0.text.0, (Durable s.text, ap new_after_power_loss h.1)), tt)), h.1, always_both (Owns p.journal) HasNoNew d.journal h.0.journal h.2)

pub made_unrenamed : (p : Pair) (s : Contents) (d : Disk) → HoldsWhileSaving p s CreateJournal d → IsUnrenamed p d
made_unrenamed p s d h =
    record {
      text = always_weaker (OwnsWithNew p.text) (Owns p.text) (owns_of_owns_with p.text) d.text h.0;
      journal = always_weaker (OwnsAlone p.journal) (Owns p.journal) (λ n k. k.0) d.journal h.2;
      no_lone_journal = inr (always_weaker (OwnsWithNew p.text) HasNew (λ n k. k.1) d.text h.0);
    }

make_journal : (p : Pair) (s : Contents) (d : Disk) (new : Option File) → d.journal.current.new ≡ new → HoldsWhileSaving p s CreateJournal d
    → HoldsWhileSaving p s (choose_or_in_place (if_not_found new) CopyJournalAttributes (RemoveText InPlace) (RemoveJournal (Error Journal))) (with_directory Journal (created new d.journal) d)
make_journal p s d None e h =
    (record {
      names = h.0;
      text = h.1;
      journals = (h.2.0.0, owns_kept p.journal (Some Torn) d.journal.possible (each_weaker (OwnsAlone p.journal) (Owns p.journal) (λ n k. k.0) d.journal.possible h.2.1));
      journal = refl;
    })
make_journal p s d (Some file) e h = absurd (let is = h.2.0.1 in cc)

text_written : (p : Pair) (s : Contents) (d : Disk) → HasNewText p Empty d
    → HasNewText p (Unsynced s.text) (with_directory Text (new_written s.text (Some Empty) d.text) d)
text_written p s d h = (record { text = h.0.text; journal = h.0.journal; no_lone_journal = inl h.2 }, refl, h.2)

text_synced : (p : Pair) (s : Contents) (d : Disk) → HasNewText p (Unsynced s.text) d
    → HasNewText p (Durable s.text) (with_directory Text (new_synced (Some (Unsynced s.text)) d.text) d)
text_synced p s d h = (
  record {
    text = (h.0.text.0, each_or_changed (Owns p.text) (Owns p.text) (if_new (Durable s.text)) (λ n o. own_in n.new (Durable s.text) p.text n o) (λ n o. o) d.text.possible h.0.text.1);
    journal = h.0.journal;
    no_lone_journal = inl h.2;
  },
  refl,
  h.2,
)

journal_written : (p : Pair) (s : Contents) (d : Disk) → HasNewFiles p (Durable s.text) Empty d
    → HasNewFiles p (Durable s.text) (Unsynced s.journal) (with_directory Journal (new_written s.journal (Some Empty) d.journal) d)
journal_written p s d b = record { names = b.names; text = b.text; journals = (b.journals.0, b.journals.1); journal = refl }

journal_synced : (p : Pair) (s : Contents) (d : Disk) → HasNewFiles p (Durable s.text) (Unsynced s.journal) d
    → HasNewFiles p (Durable s.text) (Durable s.journal) (with_directory Journal (new_synced (Some (Unsynced s.journal)) d.journal) d)
journal_synced p s d b =
    record {
      names = b.names;
      text = b.text;
      journals = (b.journals.0, each_or_changed (Owns p.journal) (Owns p.journal) (if_new (Durable s.journal)) (λ n h. own_in n.new (Durable s.journal) p.journal n h) (λ n h. h) d.journal.possible b.journals.1);
      journal = refl;
    }

journal_name_kept : (p : Pair) (s : Contents) (d : Disk) → HasNewFiles p (Durable s.text) (Durable s.journal) d
    → IsReady p s (with_directory Journal (directory_synced d.journal) d)
journal_name_kept p s d b = (
  record {
    names = b.names;
    text = b.text;
    journals = (b.journals.0, (b.journals.0, tt));
    journal = b.journal;
  },
  (ap new_after_power_loss b.journal, tt),
)

owns_with_journal : (p : Pair) (s : Contents) (n : Names) → Owns p.journal n × (n.new ≡ Some (Durable s.journal)) → OwnsWithNew p.journal n × HoldsJournal (Some (Durable s.journal)) n
owns_with_journal p s n h = ((h.0, (Durable s.journal, h.1)), inr (s.journal, h.1, refl))

text_rename : (p : Pair) (s : Contents) (d : Disk) → IsAdoptable d.checks (as_files s) → IsReady p s d
    → IsRenaming p (as_files s) (with_directory Text (renamed (Some (Durable s.text)) d.text) d)
text_rename p s d f h =
    record {
      can_adopt = f;
      current = (refl, refl);
      possible = each_or_changed (OwnsWithNew p.text) (λ n. OwnsWithNew p.text n ⊎ OwnsAlone (Some (Durable s.text)) n) (with_own (Durable s.text)) (λ n k. inr (refl, refl)) (λ n k. inl k) d.text.possible h.0.names.1;
      journal = (
        owns_with_journal p s d.journal.current (h.0.journals.0, h.0.journal),
        each_weaker (λ n. Owns p.journal n × (n.new ≡ Some (Durable s.journal))) (λ n. OwnsWithNew p.journal n × HoldsJournal (Some (Durable s.journal)) n) (owns_with_journal p s) d.journal.possible (each_both (Owns p.journal) (λ n. n.new ≡ Some (Durable s.journal)) d.journal.possible h.0.journals.1 h.1),
      );
    }

pub text_rename_kept : (p q : Pair) (d : Disk) → IsRenaming p q d → IsRenamed q (with_directory Text (directory_synced d.text) d)
text_rename_kept p q d b =
    record {
      can_adopt = b.can_adopt;
      text = (b.current, ((b.current.0, ap new_after_power_loss b.current.1), tt));
      journal = always_weaker (λ n. OwnsWithNew p.journal n × HoldsJournal q.journal n) (HoldsJournal q.journal) (λ n h. h.1) d.journal b.journal;
    }

unchanged_ends : (p : Pair) (s : Contents) (end : End) (d : Disk) → IsUnrenamed p d → ChangesNothing end → HoldsWhileSaving p s (finish end) d
unchanged_ends p s Success d b u = absurd u
unchanged_ends p s InPlace d b u = unrenamed_stable p d b
unchanged_ends p s (Error part) d b u = unrenamed_stable p d b
unchanged_ends p s Unknown d b u = absurd u
unchanged_ends p s Late d b u = absurd u

removes_journal : (p : Pair) (s : Contents) (end : End) (d : Disk) (new : Option File) → IsUnrenamed p d → ChangesNothing end
    → HoldsWhileSaving p s (choose (if_found new) (SyncRemoval end) (SyncRemoval end) (finish end)) (with_directory Journal (new_removed d.journal) d)
removes_journal p s end d None b u = (journal_removed p d b, refl, u)
removes_journal p s end d (Some file) b u = (journal_removed p d b, refl, u)

rename_journal_saved : (p : Pair) (s : Contents) (d : Disk) (new : Option File) → d.journal.current.new ≡ new → IsRenamed (as_files s) d → HasNew d.journal.current
    → HoldsWhileSaving p s (choose (if_found new) (Ended Success) (Ended Late) (Ended Late)) (with_directory Journal (renamed new d.journal) d)
rename_journal_saved p s d None e placed taken = absurd (let is = taken.1 in cc)
rename_journal_saved p s d (Some file) e placed taken = (rename_journal (as_files s) d (Some file) e placed taken, (placed.text.0.1, refl))

journal_torn : (p : Pair) (text : File) (d : Disk) → HasNewFiles p text Empty d → IsUnrenamed p (with_directory Journal (new_torn (Some Empty) d.journal) d)
journal_torn p text d b =
    let unrenamed : IsUnrenamed p d = new_unrenamed p text Empty d b in
    record {
      text = unrenamed.text;
      journal = (b.journals.0, b.journals.1);
      no_lone_journal = inr (always_weaker (OwnsWithNew p.text) HasNew (λ n h. h.1) d.text b.names);
    }

text_torn : (p : Pair) (d : Disk) → HasNewText p Empty d → IsUnrenamed p (with_directory Text (new_torn (Some Empty) d.text) d)
text_torn p d h = record { text = h.0.text; journal = h.0.journal; no_lone_journal = inl h.2 }

text_made : (p : Pair) (d : Disk) (new : Option File) → d.text.current.new ≡ new → IsUnrenamed p d → IsUnrenamed p (with_directory Text (created new d.text) d)
text_made p d None e b =
    record {
      text = (b.text.0, owns_kept p.text (Some Torn) d.text.possible b.text.1);
      journal = b.journal;
      no_lone_journal = inl (elim b.no_lone_journal [ inl no_new ↦ no_new | inr taken ↦ absurd (let is = taken.0.1 in cc) ]);
    }
text_made p d (Some file) e b = b

journal_made : (p : Pair) (s : Contents) (d : Disk) (new : Option File) → d.journal.current.new ≡ new → HoldsWhileSaving p s CreateJournal d
    → IsUnrenamed p (with_directory Journal (created new d.journal) d) × ChangesNothing (Error Journal)
journal_made p s d None e h =
    let after = with_directory Journal (created None d.journal) d in
    let k : HasNewFiles p (Durable s.text) Empty after = make_journal p s d None e h in
    (new_unrenamed p (Durable s.text) Empty after k, tt)
journal_made p s d (Some file) e h = (made_unrenamed p s d h, tt)

pub rename_or_not : (p : Pair) (s : Contents) (d : Disk) → HasNewFiles p (Durable s.text) (Durable s.journal) d ⊎ IsRenaming p (as_files s) d → IsOldOrNew p (as_files s) d
rename_or_not p s d (inl h) = inl (inl (new_unrenamed p (Durable s.text) (Durable s.journal) d h))
rename_or_not p s d (inr h) = inr (inl h)

checks_if_rename : (p : Pair) (s : Contents) (end : End) (d : Disk) (new : Option File) → d.text.current.new ≡ new
    → HasNewFiles p (Durable s.text) (Durable s.journal) d ⊎ IsRenaming p (as_files s) d → ChangesNothing end
    → HoldsWhileSaving p s (choose (if_found new) (RemoveJournal end) SyncRename (Ended Unknown)) d
checks_if_rename p s end d None e (inl h) u = absurd (let is = h.text in cc)
checks_if_rename p s end d None e (inr h) u = h
checks_if_rename p s end d (Some file) e (inl h) u = (new_unrenamed p (Durable s.text) (Durable s.journal) d h, u)
checks_if_rename p s end d (Some file) e (inr h) u = absurd (let is = h.current.1 in cc)

ready_unrenamed : (p : Pair) (s : Contents) (d : Disk) → IsReady p s d → IsUnrenamed p d × Unit {0}
ready_unrenamed p s d h = (new_unrenamed p (Durable s.text) (Durable s.journal) d h.0, tt)

-- a comparison changes nothing
compared_new : (p : Pair) (s : Contents) (next : Step) (part : SavedFile) (same : Bool) (d : Disk) → IsReady p s d → HoldsWhileSaving p s next d
    → HoldsWhileSaving p s (choose (if_same same) next (RemoveJournal (Error part)) (RemoveJournal (Error part))) d
compared_new p s next part true d ready h = h
compared_new p s next part false d ready h = ready_unrenamed p s d ready

compared_in_place : (p : Pair) (s : Contents) (same : Bool) (d : Disk) → IsStable p d
    → HoldsWhileSaving p s (choose (if_same same) (Ended InPlace) (Ended (Error Text)) (Ended (Error Text))) d
compared_in_place p s true d h = h
compared_in_place p s false d h = h

pub saving_stepped : (p : Pair) (s : Contents) (step : Step) (d : Disk) (fate : Fate) → IsAdoptable d.checks (as_files s) → HoldsWhileSaving p s step d
    → let m = stepped s (record { step = step; disk = d }) fate in HoldsWhileSaving p s m.step m.disk
saving_stepped p s step d (AnotherSyncs part) f h = saving_synced p part s step d h
saving_stepped p s OpenJournal d Succeeds f h = open_journal p s d d.journal.current.own h
saving_stepped p s OpenJournal d Fails f h = h
saving_stepped p s OpenJournal d IsRuledOut f h = h
saving_stepped p s OpenJournal d FailsOnceDone f h = h
saving_stepped p s OpenText d Succeeds f h = open_text p s d d.text.current.own h
saving_stepped p s OpenText d Fails f h = h
saving_stepped p s OpenText d IsRuledOut f h = h
saving_stepped p s OpenText d FailsOnceDone f h = h
saving_stepped p s SyncEarlierRename d Succeeds f h = old_names_kept p d h
saving_stepped p s SyncEarlierRename d Fails f h = h
saving_stepped p s SyncEarlierRename d IsRuledOut f h = h
saving_stepped p s SyncEarlierRename d FailsOnceDone f h = unrenamed_stable p (with_directory Journal (directory_synced d.journal) d) (old_names_kept p d h)
saving_stepped p s CreateText d Succeeds f h = make_text p s d d.text.current.new refl h
saving_stepped p s CreateText d Fails f h = (h, tt)
saving_stepped p s CreateText d IsRuledOut f h = unrenamed_stable p d h
saving_stepped p s CreateText d FailsOnceDone f h = (text_made p d d.text.current.new refl h, tt)
saving_stepped p s CopyTextAttributes d Succeeds f h = h
saving_stepped p s CopyTextAttributes d Fails f h = (h.0, h.2, tt)
saving_stepped p s CopyTextAttributes d IsRuledOut f h = (h.0, h.2, tt)
saving_stepped p s CopyTextAttributes d FailsOnceDone f h = (h.0, h.2, tt)
saving_stepped p s WriteText d Succeeds f h = rw h.1 (text_written p s d h)
saving_stepped p s WriteText d Fails f h = rw h.1 (text_torn p d h, h.2, tt)
saving_stepped p s WriteText d IsRuledOut f h = rw h.1 (text_torn p d h, h.2, tt)
saving_stepped p s WriteText d FailsOnceDone f h = rw h.1 ((text_written p s d h).0, h.2, tt)
saving_stepped p s SyncText d Succeeds f h = rw h.1 (text_synced p s d h)
saving_stepped p s SyncText d Fails f h = (h.0, h.2, tt)
saving_stepped p s SyncText d IsRuledOut f h = (h.0, h.2, tt)
saving_stepped p s SyncText d FailsOnceDone f h = rw h.1 ((text_synced p s d h).0, h.2, tt)
saving_stepped p s SyncTextName d Succeeds f h = text_name_kept p s d h
saving_stepped p s SyncTextName d Fails f h = (h.0, h.2, tt)
saving_stepped p s SyncTextName d IsRuledOut f h = (h.0, h.2, tt)
saving_stepped p s SyncTextName d FailsOnceDone f h = let k : HoldsWhileSaving p s CreateJournal (with_directory Text (directory_synced d.text) d) = text_name_kept p s d h in (made_unrenamed p s (with_directory Text (directory_synced d.text) d) k, h.2, tt)
saving_stepped p s CreateJournal d Succeeds f h = make_journal p s d d.journal.current.new refl h
saving_stepped p s CreateJournal d Fails f h = (made_unrenamed p s d h, tt)
saving_stepped p s CreateJournal d IsRuledOut f h = (made_unrenamed p s d h, always_weaker (OwnsAlone p.journal) HasNoNew (λ n k. k.1) d.journal h.2, tt)
saving_stepped p s CreateJournal d FailsOnceDone f h = journal_made p s d d.journal.current.new refl h
saving_stepped p s CopyJournalAttributes d Succeeds f h = h
saving_stepped p s CopyJournalAttributes d Fails f h = (new_unrenamed p (Durable s.text) Empty d h, tt)
saving_stepped p s CopyJournalAttributes d IsRuledOut f h = (new_unrenamed p (Durable s.text) Empty d h, tt)
saving_stepped p s CopyJournalAttributes d FailsOnceDone f h = (new_unrenamed p (Durable s.text) Empty d h, tt)
saving_stepped p s WriteJournal d Succeeds f h = rw h.journal (journal_written p s d h)
saving_stepped p s WriteJournal d Fails f h = rw h.journal (journal_torn p (Durable s.text) d h, tt)
saving_stepped p s WriteJournal d IsRuledOut f h = rw h.journal (journal_torn p (Durable s.text) d h, tt)
saving_stepped p s WriteJournal d FailsOnceDone f h = rw h.journal (new_unrenamed p (Durable s.text) (Unsynced s.journal) (with_directory Journal (new_written s.journal (Some Empty) d.journal) d) (journal_written p s d h), tt)
saving_stepped p s SyncJournal d Succeeds f h = rw h.journal (journal_synced p s d h)
saving_stepped p s SyncJournal d Fails f h = (new_unrenamed p (Durable s.text) (Unsynced s.journal) d h, tt)
saving_stepped p s SyncJournal d IsRuledOut f h = (new_unrenamed p (Durable s.text) (Unsynced s.journal) d h, tt)
saving_stepped p s SyncJournal d FailsOnceDone f h = rw h.journal (new_unrenamed p (Durable s.text) (Durable s.journal) (with_directory Journal (new_synced (Some (Unsynced s.journal)) d.journal) d) (journal_synced p s d h), tt)
saving_stepped p s SyncJournalName d Succeeds f h = journal_name_kept p s d h
saving_stepped p s SyncJournalName d Fails f h = (new_unrenamed p (Durable s.text) (Durable s.journal) d h, tt)
saving_stepped p s SyncJournalName d IsRuledOut f h = (new_unrenamed p (Durable s.text) (Durable s.journal) d h, tt)
saving_stepped p s SyncJournalName d FailsOnceDone f h = let k : IsReady p s (with_directory Journal (directory_synced d.journal) d) = journal_name_kept p s d h in (new_unrenamed p (Durable s.text) (Durable s.journal) (with_directory Journal (directory_synced d.journal) d) k.0, tt)
saving_stepped p s CompareNewJournal d Succeeds f h = compared_new p s CompareNewText Journal (d.checks.is_ours Journal) d h h
saving_stepped p s CompareNewJournal d Fails f h = ready_unrenamed p s d h
saving_stepped p s CompareNewJournal d IsRuledOut f h = ready_unrenamed p s d h
saving_stepped p s CompareNewJournal d FailsOnceDone f h = ready_unrenamed p s d h
saving_stepped p s CompareNewText d Succeeds f h = compared_new p s CompareText Text (d.checks.is_ours Text) d h h
saving_stepped p s CompareNewText d Fails f h = ready_unrenamed p s d h
saving_stepped p s CompareNewText d IsRuledOut f h = ready_unrenamed p s d h
saving_stepped p s CompareNewText d FailsOnceDone f h = ready_unrenamed p s d h
saving_stepped p s CompareText d Succeeds f h = compared_new p s RenameText Text d.checks.is_unchanged d h h
saving_stepped p s CompareText d Fails f h = ready_unrenamed p s d h
saving_stepped p s CompareText d IsRuledOut f h = ready_unrenamed p s d h
saving_stepped p s CompareText d FailsOnceDone f h = ready_unrenamed p s d h
saving_stepped p s RenameText d Succeeds f h = rw h.0.text (text_rename p s d f h)
saving_stepped p s RenameText d Fails f h = (inl h.0, tt)
saving_stepped p s RenameText d IsRuledOut f h = (inl h.0, tt)
saving_stepped p s RenameText d FailsOnceDone f h = rw h.0.text (inr (text_rename p s d f h), tt)
saving_stepped p s (CheckRename end) d Succeeds f h = checks_if_rename p s end d d.text.current.new refl h.0 h.1
saving_stepped p s (CheckRename end) d Fails f h = rename_or_not p s d h.0
saving_stepped p s (CheckRename end) d IsRuledOut f h = rename_or_not p s d h.0
saving_stepped p s (CheckRename end) d FailsOnceDone f h = rename_or_not p s d h.0
saving_stepped p s SyncRename d Succeeds f h = (text_rename_kept p (as_files s) d h, h.journal.0.0.1)
saving_stepped p s SyncRename d Fails f h = inl h
saving_stepped p s SyncRename d IsRuledOut f h = inl h
saving_stepped p s SyncRename d FailsOnceDone f h = inr (inr (inl (text_rename_kept p (as_files s) d h)))
saving_stepped p s RenameJournal d Succeeds f h = rename_journal_saved p s d d.journal.current.new refl h.0 h.1
saving_stepped p s RenameJournal d Fails f h = inr (inr (inl h.0))
saving_stepped p s RenameJournal d IsRuledOut f h = inr (inr (inl h.0))
saving_stepped p s RenameJournal d FailsOnceDone f h = inr (journal_rename (as_files s) d d.journal.current.new refl h.0 h.1)
saving_stepped p s (RemoveJournal end) d Succeeds f h = removes_journal p s end d d.journal.current.new h.0 h.1
saving_stepped p s (RemoveJournal end) d Fails f h = unchanged_ends p s end d h.0 h.1
saving_stepped p s (RemoveJournal end) d IsRuledOut f h = unchanged_ends p s end d h.0 h.1
saving_stepped p s (RemoveJournal end) d FailsOnceDone f h = unchanged_ends p s end (with_directory Journal (new_removed d.journal) d) (journal_removed p d h.0) h.1
saving_stepped p s (SyncRemoval end) d Succeeds f h = let k = removal_kept p d h.0 h.1 in (k.0, k.1, h.2)
saving_stepped p s (SyncRemoval end) d Fails f h = unchanged_ends p s end d h.0 h.2
saving_stepped p s (SyncRemoval end) d IsRuledOut f h = unchanged_ends p s end d h.0 h.2
saving_stepped p s (SyncRemoval end) d FailsOnceDone f h = unchanged_ends p s end (with_directory Journal (directory_synced d.journal) d) (removal_kept p d h.0 h.1).0 h.2
saving_stepped p s (RemoveText end) d Succeeds f h = unchanged_ends p s end (with_directory Text (new_removed d.text) d) (text_removed p d h.0 h.1) h.2
saving_stepped p s (RemoveText end) d Fails f h = unchanged_ends p s end d h.0 h.2
saving_stepped p s (RemoveText end) d IsRuledOut f h = unchanged_ends p s end d h.0 h.2
saving_stepped p s (RemoveText end) d FailsOnceDone f h = unchanged_ends p s end (with_directory Text (new_removed d.text) d) (text_removed p d h.0 h.1) h.2
saving_stepped p s CompareInPlace d Succeeds f h = compared_in_place p s d.checks.is_unchanged d h
saving_stepped p s CompareInPlace d Fails f h = h
saving_stepped p s CompareInPlace d IsRuledOut f h = h
saving_stepped p s CompareInPlace d FailsOnceDone f h = h
saving_stepped p s (Ended end) d fate f h = h
saving_stepped p s step d fate f h = absurd h
