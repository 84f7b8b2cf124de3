-- Where every recovery finds one pair, each call keeps it so.
use Rattle.std.proofs.Common.{◌≡◌, ◌⊎◌, List, Bool, true, false, Option, Some, None, inl, inr, refl, sym, ap, ◌∙◌}
use Rattle.tf_saving.specs.Disk.{File, Names, Disk, Contents, maybe_changed, with_new, with_own, with_directory, directory_synced, renamed, new_removed, new_after_power_loss, after_power_loss, if_found, if_same, if_adoptable}
use Rattle.tf_saving.specs.Steps.{choose, finish}
use Rattle.tf_saving.specs.Runs.{Fate, Succeeds, Fails, IsRuledOut, FailsOnceDone, AnotherSyncs, Pair, found, stepped}
use Rattle.tf_saving.specs.Stable.{Each, InAll, Owns, HasNoNew, HasNew, IsUnrenamed, HoldsJournal, MayHaveStray, IsRenamed, HasOnlyStray, RecoversTo, IsStable}
use Rattle.tf_saving.proofs.Holds.{HoldsForOne}
use Rattle.tf_saving.specs.declared.call.SavedFile.TheVariants.{Text, Journal}
use Rattle.tf_saving.specs.declared.step.End.{End}
use Rattle.tf_saving.specs.declared.step.End.TheVariants.{Success, InPlace, Error, Unknown, Late}
use Rattle.tf_saving.specs.declared.step.Step.{Step}
use Rattle.tf_saving.specs.declared.step.Step.TheVariants.{FindNewJournal, FindNewText, ReadNewJournal, RemoveStray, SyncRename, RenameJournal, RemoveJournal, SyncRemoval, RemoveText, CompareInPlace, Ended}
use Rattle.tf_saving.proofs.Lists.{each_or_changed}
use Rattle.tf_saving.proofs.OtherSaves.{one_synced}
use Rattle.tf_saving.proofs.Checks.{new_is, adoptable_seen, unadoptable_seen, if_it_adoptable, if_it_strays}

-- a change of the new file keeps the part's own
pub owns_kept : (file new : Option File) (ns : List Names) → Each (Owns file) ns → Each (Owns file) (maybe_changed (with_new new) ns)
owns_kept file new ns h = each_or_changed (Owns file) (Owns file) (with_new new) (λ n o. o) (λ n o. o) ns h

pub no_new_kept : (ns : List Names) → Each HasNoNew ns → Each HasNoNew (maybe_changed (with_new None) ns)
no_new_kept ns h = each_or_changed HasNoNew HasNoNew (with_new None) (λ n o. refl) (λ n o. o) ns h

pub found_by : (p : Pair) (d : Disk) → Owns p.text d.text.current → Owns p.journal d.journal.current → found d ≡ p
found_by p d t j = λ i. record { text = t i; journal = j i }

pub unrenamed_stable : (p : Pair) (d : Disk) → IsUnrenamed p d → IsStable p d
unrenamed_stable p d b =
    record {
      recovers = inl b;
      is_found = found_by p d b.text.0 b.journal.0;
      is_recovered = elim b.no_lone_journal [ inl no_new ↦ inl no_new.0 | inr taken ↦ inr taken.0 ];
    }

unrenamed_ends : (p : Pair) (end : End) (d : Disk) → IsUnrenamed p d → HoldsForOne p (finish end) d
unrenamed_ends p Success d b = unrenamed_stable p d b
unrenamed_ends p InPlace d b = unrenamed_stable p d b
unrenamed_ends p (Error part) d b = inl b
unrenamed_ends p Unknown d b = inl b
unrenamed_ends p Late d b = inl b

find_journal : (p : Pair) (d : Disk) (new : Option File) → d.journal.current.new ≡ new → RecoversTo p d
    → HoldsForOne p (choose (if_found new) (FindNewText true) (FindNewText false) (Ended Unknown)) d
find_journal p d None e h = (h, e)
find_journal p d (Some file) e h = (h, (file, e))

find_text_with : (p : Pair) (d : Disk) (new : Option File) → d.text.current.new ≡ new → RecoversTo p d → HasNew d.journal.current
    → HoldsForOne p (choose (if_found new) (RemoveJournal Success) ReadNewJournal (Ended Unknown)) d
find_text_with p d None e (inl b) taken =
    elim b.no_lone_journal [ inl no_new ↦ absurd (let was = no_new.0 in let is = taken.1 in cc) | inr texts ↦ absurd (let was = texts.0.1 in cc) ]
find_text_with p d None e (inr lone) taken = (lone, taken)
find_text_with p d (Some file) e (inl b) taken = b
find_text_with p d (Some file) e (inr (inl placed)) taken = absurd (let was = placed.text.0.1 in cc)
find_text_with p d (Some file) e (inr (inr strayed)) taken = absurd (let was = strayed.text.0.1 in cc)

owns_no_new : (journal : Option File) (n : Names) → HoldsJournal journal n → HasNoNew n → Owns journal n
owns_no_new journal n (inl h) no_new = h.0
owns_no_new journal n (inr h) no_new = absurd (let was = h.1 in cc)

strayed_stable : (p : Pair) (d : Disk) → HasOnlyStray p d → HasNoNew d.journal.current → IsStable p d
strayed_stable p d strayed no_new =
    record {
      recovers = inr (inr strayed);
      is_found = found_by p d strayed.text.0.0 strayed.journal.0.0;
      is_recovered = inl no_new;
    }

find_text_without : (p : Pair) (d : Disk) (new : Option File) → d.text.current.new ≡ new → RecoversTo p d → HasNoNew d.journal.current
    → HoldsForOne p (choose (if_found new) (RemoveJournal Success) (Ended Success) (Ended Unknown)) d
find_text_without p d None e (inl b) no_new = unrenamed_stable p d b
find_text_without p d None e (inr (inl placed)) no_new =
    record {
      recovers = inr (inl placed);
      is_found = found_by p d placed.text.0.0 (owns_no_new p.journal d.journal.current placed.journal.0 no_new);
      is_recovered = inl no_new;
    }
find_text_without p d None e (inr (inr strayed)) no_new = strayed_stable p d strayed no_new
find_text_without p d (Some file) e (inl b) no_new = b
find_text_without p d (Some file) e (inr (inl placed)) no_new = absurd (let was = placed.text.0.1 in cc)
find_text_without p d (Some file) e (inr (inr strayed)) no_new = absurd (let was = strayed.text.0.1 in cc)

read_journal : (p : Pair) (d : Disk) → IsRenamed p d ⊎ HasOnlyStray p d → HasNew d.journal.current
    → HoldsForOne p (choose (if_adoptable (d.checks.can_adopt d.text.current.own d.journal.current.own d.journal.current.new)) SyncRename RemoveStray (Ended Unknown)) d
read_journal p d (inl placed) taken =
    if_it_adoptable (λ (step : Step). HoldsForOne p step d) (d.checks.can_adopt d.text.current.own d.journal.current.own d.journal.current.new) SyncRename RemoveStray (Ended Unknown)
    (adoptable_seen p d placed.can_adopt placed.text.0.0 (new_is p.journal d.journal.current placed.journal.0 taken))
    (placed, taken)
read_journal p d (inr strayed) taken =
    if_it_strays (λ (step : Step). HoldsForOne p step d) (d.checks.can_adopt d.text.current.own d.journal.current.own d.journal.current.new) SyncRename RemoveStray (Ended Unknown)
    (unadoptable_seen p d strayed.journal.0 taken strayed.text.0.0)
    strayed

stray_removed : (p : Pair) (d : Disk) → HasOnlyStray p d → HasOnlyStray p (with_directory Journal (new_removed d.journal) d)
stray_removed p d strayed =
    record {
      text = strayed.text;
      journal = (
        (strayed.journal.0.0, inl refl),
        each_or_changed (MayHaveStray d.checks p) (MayHaveStray d.checks p) (with_new None) (λ n h. (h.0, inl refl)) (λ n h. h) d.journal.possible strayed.journal.1,
      );
    }

remove_stray : (p : Pair) (d : Disk) (new : Option File) → HasOnlyStray p d
    → HoldsForOne p (choose (if_found new) (Ended Success) (Ended Success) (Ended (Error Journal))) (with_directory Journal (new_removed d.journal) d)
remove_stray p d None strayed = strayed_stable p (with_directory Journal (new_removed d.journal) d) (stray_removed p d strayed) refl
remove_stray p d (Some file) strayed = strayed_stable p (with_directory Journal (new_removed d.journal) d) (stray_removed p d strayed) refl

text_kept : (p : Pair) (d : Disk) → IsRenamed p d → IsRenamed p (with_directory Text (directory_synced d.text) d)
text_kept p d placed =
    record {
      can_adopt = placed.can_adopt;
      text = (placed.text.0, ((placed.text.0.0, ap new_after_power_loss placed.text.0.1), tt));
      journal = placed.journal;
    }

-- the new file is the journal, and a power loss leaves it
lost_is : (journal : Option File) (n : Names) (file : File) → n.new ≡ Some file → HoldsJournal journal n → Some (after_power_loss file) ≡ journal
lost_is journal n file e (inl h) = absurd (let was = h.1 in cc)
lost_is journal n file e (inr h) = ap new_after_power_loss (sym e ∙ h.1) ∙ sym h.2

pub rename_journal : (p : Pair) (d : Disk) (new : Option File) → d.journal.current.new ≡ new → IsRenamed p d → HasNew d.journal.current
    → HoldsForOne p (choose (if_found new) (Ended Success) (Ended Late) (Ended Late)) (with_directory Journal (renamed new d.journal) d)
rename_journal p d None e placed taken = absurd (let is = taken.1 in cc)
rename_journal p d (Some file) e placed taken =
    let is : Some (after_power_loss file) ≡ p.journal = lost_is p.journal d.journal.current file e placed.journal.0 in
    record {
      recovers = inr (inl (record {
        can_adopt = placed.can_adopt;
        text = placed.text;
        journal = (inl (is, refl), each_or_changed (HoldsJournal p.journal) (HoldsJournal p.journal) (with_own (after_power_loss file)) (λ n h. inl (is, refl)) (λ n h. h) d.journal.possible placed.journal.1);
      }));
      is_found = λ i. record { text = placed.text.0.0 i; journal = is i };
      is_recovered = inl refl;
    }

pub journal_rename : (p : Pair) (d : Disk) (new : Option File) → d.journal.current.new ≡ new → IsRenamed p d → HasNew d.journal.current
    → RecoversTo p (with_directory Journal (renamed new d.journal) d)
journal_rename p d None e placed taken = inr (inl placed)
journal_rename p d (Some file) e placed taken = (rename_journal p d (Some file) e placed taken).recovers

pub journal_removed : (p : Pair) (d : Disk) → IsUnrenamed p d → IsUnrenamed p (with_directory Journal (new_removed d.journal) d)
journal_removed p d b =
    record {
      text = b.text;
      journal = (b.journal.0, owns_kept p.journal None d.journal.possible b.journal.1);
      no_lone_journal = elim b.no_lone_journal [ inl no_new ↦ inl (refl, no_new_kept d.journal.possible no_new.1) | inr taken ↦ inr taken ];
    }

remove_journal : (p : Pair) (end : End) (d : Disk) (new : Option File) → IsUnrenamed p d
    → HoldsForOne p (choose (if_found new) (SyncRemoval end) (SyncRemoval end) (finish end)) (with_directory Journal (new_removed d.journal) d)
remove_journal p end d None b = (journal_removed p d b, refl)
remove_journal p end d (Some file) b = (journal_removed p d b, refl)

pub removal_kept : (p : Pair) (d : Disk) → IsUnrenamed p d → HasNoNew d.journal.current
    → let after = with_directory Journal (directory_synced d.journal) d in IsUnrenamed p after × InAll HasNoNew after.journal
removal_kept p d b no_new = (
  record {
    text = b.text;
    journal = (b.journal.0, (b.journal.0, tt));
    no_lone_journal = inl (no_new, (ap new_after_power_loss no_new, tt));
  },
  (no_new, (ap new_after_power_loss no_new, tt)),
)

pub text_removed : (p : Pair) (d : Disk) → IsUnrenamed p d → InAll HasNoNew d.journal → IsUnrenamed p (with_directory Text (new_removed d.text) d)
text_removed p d b no_new =
    record {
      text = (b.text.0, owns_kept p.text None d.text.possible b.text.1);
      journal = b.journal;
      no_lone_journal = inl no_new;
    }

-- a comparison changes nothing
compared : (p : Pair) (same : Bool) (d : Disk) → IsStable p d
    → HoldsForOne p (choose (if_same same) (Ended InPlace) (Ended (Error Text)) (Ended (Error Text))) d
compared p true d h = h
compared p false d h = h.recovers

pub one_stepped : (p : Pair) (s : Contents) (step : Step) (d : Disk) (fate : Fate) → HoldsForOne p step d
    → let m = stepped s (record { step = step; disk = d }) fate in HoldsForOne p m.step m.disk
one_stepped p s step d (AnotherSyncs part) h = one_synced p part s step d h
one_stepped p s FindNewJournal d Succeeds h = find_journal p d d.journal.current.new refl h
one_stepped p s FindNewJournal d Fails h = h
one_stepped p s FindNewJournal d IsRuledOut h = h
one_stepped p s FindNewJournal d FailsOnceDone h = h
one_stepped p s (FindNewText true) d Succeeds h = find_text_with p d d.text.current.new refl h.0 h.1
one_stepped p s (FindNewText true) d Fails h = h.0
one_stepped p s (FindNewText true) d IsRuledOut h = h.0
one_stepped p s (FindNewText true) d FailsOnceDone h = h.0
one_stepped p s (FindNewText false) d Succeeds h = find_text_without p d d.text.current.new refl h.0 h.1
one_stepped p s (FindNewText false) d Fails h = h.0
one_stepped p s (FindNewText false) d IsRuledOut h = h.0
one_stepped p s (FindNewText false) d FailsOnceDone h = h.0
one_stepped p s ReadNewJournal d Succeeds h = read_journal p d h.0 h.1
one_stepped p s ReadNewJournal d Fails h = inr h.0
one_stepped p s ReadNewJournal d IsRuledOut h = inr h.0
one_stepped p s ReadNewJournal d FailsOnceDone h = inr h.0
one_stepped p s RemoveStray d Succeeds h = remove_stray p d d.journal.current.new h
one_stepped p s RemoveStray d Fails h = inr (inr h)
one_stepped p s RemoveStray d IsRuledOut h = inr (inr h)
one_stepped p s RemoveStray d FailsOnceDone h = inr (inr (stray_removed p d h))
one_stepped p s SyncRename d Succeeds h = (text_kept p d h.0, h.1)
one_stepped p s SyncRename d Fails h = inr (inl h.0)
one_stepped p s SyncRename d IsRuledOut h = inr (inl h.0)
one_stepped p s SyncRename d FailsOnceDone h = inr (inl (text_kept p d h.0))
one_stepped p s RenameJournal d Succeeds h = rename_journal p d d.journal.current.new refl h.0 h.1
one_stepped p s RenameJournal d Fails h = inr (inl h.0)
one_stepped p s RenameJournal d IsRuledOut h = inr (inl h.0)
one_stepped p s RenameJournal d FailsOnceDone h = journal_rename p d d.journal.current.new refl h.0 h.1
one_stepped p s (RemoveJournal end) d Succeeds h = remove_journal p end d d.journal.current.new h
one_stepped p s (RemoveJournal end) d Fails h = unrenamed_ends p end d h
one_stepped p s (RemoveJournal end) d IsRuledOut h = unrenamed_ends p end d h
one_stepped p s (RemoveJournal end) d FailsOnceDone h = unrenamed_ends p end (with_directory Journal (new_removed d.journal) d) (journal_removed p d h)
one_stepped p s (SyncRemoval end) d Succeeds h = removal_kept p d h.0 h.1
one_stepped p s (SyncRemoval end) d Fails h = unrenamed_ends p end d h.0
one_stepped p s (SyncRemoval end) d IsRuledOut h = unrenamed_ends p end d h.0
one_stepped p s (SyncRemoval end) d FailsOnceDone h = unrenamed_ends p end (with_directory Journal (directory_synced d.journal) d) (removal_kept p d h.0 h.1).0
one_stepped p s (RemoveText end) d Succeeds h = unrenamed_ends p end (with_directory Text (new_removed d.text) d) (text_removed p d h.0 h.1)
one_stepped p s (RemoveText end) d Fails h = unrenamed_ends p end d h.0
one_stepped p s (RemoveText end) d IsRuledOut h = unrenamed_ends p end d h.0
one_stepped p s (RemoveText end) d FailsOnceDone h = unrenamed_ends p end (with_directory Text (new_removed d.text) d) (text_removed p d h.0 h.1)
one_stepped p s CompareInPlace d Succeeds h = compared p d.checks.is_unchanged d h
one_stepped p s CompareInPlace d Fails h = h.recovers
one_stepped p s CompareInPlace d IsRuledOut h = h.recovers
one_stepped p s CompareInPlace d FailsOnceDone h = h.recovers
one_stepped p s (Ended end) d fate h = h
one_stepped p s step d fate h = absurd h
