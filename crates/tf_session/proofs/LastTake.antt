-- A take of the last record: no record follows it, so no edits are swapped.
use Rattle.std.proofs.Common.{◌≡◌, ◌∙◌, ◌↔◌, ◌+◌, ◌<◌, ◌⊎◌, ℕ, List, [], ◌∷◌, ◌++◌, length, refl, sym, ap, subst, arith, length-append, inl, inr, Err}
use Rattle.std.proofs.lemmas.List.{append-nil}
use Rattle.edit_record.specs.Lists.Journal.{JournalEntry, edits_of}
use Rattle.edit_record.specs.Lists.Pieces.{EditList, Transforms}
use Rattle.edit_record.specs.Lists.ChangeResults.{IsChangeResult, HasExpectedLen}
use Rattle.edit_record.specs.declared.lists.direction.Direction.TheVariants.{Backward}
use Rattle.edit_record.specs.Swaps.Swap.{IsItem}
use Rattle.edit_record.specs.Swaps.MoveToEnd.{IsMovedToEnd}
use Rattle.edit_record.specs.Swaps.MoveToEndResult.{MoveMayAllocate}
use Rattle.tf_session.specs.declared.command.Done.{Done}
use Rattle.tf_session.specs.declared.command.Fault.{Fault}
use Rattle.tf_session.specs.NthItem.{Nth}
use Rattle.tf_session.specs.Records.{RevertsLast, RefusesRevert}
use Rattle.tf_session.specs.RemovingRecord.{RemovesRecord, FailsAfter, RefusesTake}
use Rattle.tf_session.specs.RemovingRecord.RefusesTake.{no_record, blocked, too_long, lengths_differ, not_undone, memory}
use Rattle.tf_session.specs.Session.{SessionContents}
use Rattle.tf_session.specs.TakeLaws.{LastTakeIsRevert}

no_more : {X : Type 0} (xs : List X) → length xs ≡ 0 → xs ≡ []
no_more [] e = refl
no_more (x ∷ xs) e = absurd (omega (arith, e))

no_edits : (rs : List JournalEntry) → edits_of rs ≡ [] → rs ≡ []
no_edits [] e = refl
no_edits (r ∷ rs) e = absurd cc

none_after : (rs : List JournalEntry) (nth : Nth (length rs) rs) → nth.after ≡ []
none_after rs nth =
    let all = ap length nth.all ∙ length-append nth.before (nth.item ∷ nth.after) in
    let number = nth.number in
    no_more nth.after (omega (arith, all, number))

is_last : (rs : List JournalEntry) (nth : Nth (length rs) rs) → rs ≡ nth.before ++ nth.item ∷ []
is_last rs nth = nth.all ∙ ap (λ (x : List JournalEntry). nth.before ++ nth.item ∷ x) (none_after rs nth)

abbrev last_nth : (rs before : List JournalEntry) (r : JournalEntry) → rs ≡ before ++ r ∷ [] → Nth (length rs) rs
last_nth rs before r all = record {
  before = before;
  item = r;
  after = [];
  all = all;
  number = ap length all ∙ length-append before (r ∷ []);
}

not_moved : (a last : EditList) (cs : List EditList) (after : List JournalEntry) → after ≡ [] → IsMovedToEnd a (edits_of after) cs last → (cs ≡ []) × (a ≡ last)
not_moved a last [] [] e moved = (refl, moved)
not_moved a last (c ∷ cs) [] e moved = absurd moved
not_moved a last cs (r ∷ after) e moved = absurd cc

none_fails : (rs : List JournalEntry) (k : ℕ) (R : EditList → EditList → Type 0) → FailsAfter (length rs) rs k R → ⊥
none_fails rs k R s =
    subst (λ (x : List JournalEntry). IsItem k s.fails.next (edits_of x)) (none_after rs s.nth) s.fails.next_is

reverts : (old : SessionContents) (d : Done) (new : SessionContents) → RemovesRecord (length old.records) old d new → RevertsLast old d new
reverts old d new out =
    let none = not_moved out.nth.item.edits out.moved_edits (edits_of out.new_records) out.nth.after (none_after old.records out.nth) out.is_moved in
    let records : new.records ≡ out.nth.before =
    out.records ∙ ap (λ (x : List JournalEntry). out.nth.before ++ x) (no_edits out.new_records none.0) ∙ append-nil out.nth.before in (
      out.nth.item,
      is_last old.records out.nth ∙ ap (λ (x : List JournalEntry). x ++ out.nth.item ∷ []) (sym records),
      (
        subst (λ (e : EditList). Transforms e new.text old.text) (sym none.1) out.transforms,
        λ v turns. out.only v (subst (λ (e : EditList). Transforms e v old.text) none.1 turns),
      ),
      out.done_is,
    )

removes : (old : SessionContents) (d : Done) (new : SessionContents) → RevertsLast old d new → RemovesRecord (length old.records) old d new
removes old d new out = record {
  nth = last_nth old.records new.records out.0 out.1;
  new_records = [];
  moved_edits = out.0.edits;
  is_moved = refl;
  words = refl;
  transforms = out.2.0;
  only = out.2.1;
  records = sym (append-nil new.records);
  done_is = out.3;
}

no_revert : (old : SessionContents) {f : Fault} → RefusesTake (length old.records) old f → RefusesRevert old f
no_revert old (no_record (inl none)) = no_more old.records none
no_revert old (no_record (inr less)) = absurd (omega (arith, less))
no_revert old (blocked {k} s) = absurd (none_fails old.records k _ s)
no_revert old (too_long {k} s) = absurd (none_fails old.records k _ s)
no_revert old (lengths_differ {k} {expected} {found} s) = absurd (none_fails old.records k _ s)
no_revert old (not_undone {refused} u) =
    let none = not_moved u.nth.item.edits u.moved_edits u.new_lists u.nth.after (none_after old.records u.nth) u.is_moved in (
      u.nth.item,
      (u.nth.before, is_last old.records u.nth),
      subst (λ (e : EditList). IsChangeResult Backward e old.text (Err refused)) (sym none.1) u.refuses,
    )
no_revert old (memory (nth, inl may)) =
    absurd (subst (λ (x : List JournalEntry). MoveMayAllocate nth.item.edits x) (none_after old.records nth) may)
no_revert old (memory (nth, inr (others, moved, is_moved, fits))) =
    let none = not_moved nth.item.edits moved others nth.after (none_after old.records nth) is_moved in (
      nth.item,
      (nth.before, is_last old.records nth),
      subst (λ (e : EditList). HasExpectedLen Backward e old.text) (sym none.1) fits,
    )

no_take : (old : SessionContents) (f : Fault) → RefusesRevert old f → RefusesTake (length old.records) old f
no_take old Fault.NoRecord none = no_record (inl (ap length none))
no_take old (Fault.Refused refused) h = not_undone (record {
  nth = last_nth old.records h.1.0 h.0 h.1.1;
  new_lists = [];
  moved_edits = h.0.edits;
  is_moved = refl;
  refuses = h.2;
})
no_take old Fault.Memory h = memory (last_nth old.records h.1.0 h.0 h.1.1, inr ([], h.0.edits, refl, h.2))
no_take old _ h = absurd h

pub last_take_is_revert : (old : SessionContents) → LastTakeIsRevert old
last_take_is_revert old = record {
  leaves = λ d new. (reverts old d new, removes old d new);
  refuses = λ f. (no_revert old, no_take old f);
}
