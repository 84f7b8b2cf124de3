-- A take over any text and any journal has one result: its swaps are unique, and so is what undoing the moved edits gives.
use Rattle.std.proofs.Common.{◌≡◌, ◌∙◌, ◌<◌, ◌+◌, ◌⊎◌, ℕ, List, [], ◌∷◌, ◌++◌, length, Err, refl, sym, ap, subst, inl, inr}
use Rattle.edit_record.specs.Lists.Journal.{JournalEntry, edits_of, words_of}
use Rattle.edit_record.specs.Lists.Pieces.{EditList, Transforms}
use Rattle.edit_record.specs.Lists.ChangeResults.{IsChangeResult, ChangeResultIsUnique}
use Rattle.edit_record.specs.declared.lists.change.Refused.{Refused}
use Rattle.edit_record.specs.declared.lists.change.Refused.TheVariants.{Length}
use Rattle.edit_record.specs.declared.lists.direction.Direction.TheVariants.{Backward}
use Rattle.edit_record.specs.Swaps.Swap.{SwapIsUnique}
use Rattle.edit_record.specs.Swaps.MoveToEnd.{IsMovedToEnd, MoveToEndIsUnique}
use Rattle.edit_record.specs.Swaps.MoveToEndResult.{LengthMismatch, SomeMeet, SwapIsTooLong}
use Rattle.tf_session.specs.declared.command.Done.{Done}
use Rattle.tf_session.specs.declared.command.Fault.{Fault}
use Rattle.tf_session.specs.declared.command.Fault.TheVariants.{TooLong, NoRecord, Memory, Blocked}
use Rattle.tf_lint.specs.Steps.{texts_differ}
use Rattle.tf_session.specs.Machine.{done}
use Rattle.tf_session.specs.NthItem.{Nth}
use Rattle.tf_session.specs.RemovingRecord.{RemovesRecord, FailsAfter, UndoFails, RefusesTake}
use Rattle.tf_session.specs.RemovingRecord.RefusesTake.{no_record, blocked, too_long, lengths_differ, not_undone, memory}
use Rattle.tf_session.specs.Session.{SessionContents}
use Rattle.tf_session.specs.TakeLaws.{TakeResultIsUniqueOverRecords}
use Rattle.tf_session.proofs.TakeIsUnique.{Excludes, met_excludes, overflows_excludes, nth_once, numbers, there_is, passed_or_stuck, stuck_same}
use Rattle.tf_session.proofs.Stacks.{undone_or_refused}

-- why record n cannot be swapped with the record of this number after it, and the error that this
-- is
abbrev pub CannotSwap : ℕ → ℕ → Fault → EditList → EditList → Type 0
CannotSwap n k f a b =
    ((f ≡ TooLong) × SwapIsTooLong a b)
    ⊎ (((f ≡ Blocked (n + k + 1)) × SomeMeet a b)
    ⊎ ((expected : ℕ) × (found : ℕ) × (f ≡ Fault.Refused (Length expected found)) × LengthMismatch a b expected found))

swap_excludes : (n k : ℕ) (f : Fault) → Excludes (CannotSwap n k f)
swap_excludes n k f a b c d (inl m) h = overflows_excludes a b c d m.1 h
swap_excludes n k f a b c d (inr (inl m)) h = met_excludes a b c d m.1 h
swap_excludes n k f a b c d (inr (inr m)) h = m.3.0 h.lengths_match

-- two lists cannot be swapped for one reason
one_reason : (n k : ℕ) (f g : Fault) (a b : EditList) → CannotSwap n k f a b → CannotSwap n k g a b → f ≡ g
one_reason n k f g a b (inl p) (inl q) = p.0 ∙ sym q.0
one_reason n k f g a b (inl p) (inr (inl q)) = absurd (p.1.1 q.1.1 q.1.2 q.1.3.meet)
one_reason n k f g a b (inl p) (inr (inr q)) = absurd (q.3.0 p.1.0)
one_reason n k f g a b (inr (inl p)) (inl q) = absurd (q.1.1 p.1.1 p.1.2 p.1.3.meet)
one_reason n k f g a b (inr (inl p)) (inr (inl q)) = p.0 ∙ sym q.0
one_reason n k f g a b (inr (inl p)) (inr (inr q)) = absurd (q.3.0 p.1.0)
one_reason n k f g a b (inr (inr p)) (inl q) = absurd (p.3.0 q.1.0)
one_reason n k f g a b (inr (inr p)) (inr (inl q)) = absurd (p.3.0 q.1.0)
one_reason n k f g a b (inr (inr p)) (inr (inr q)) =
    let expected : p.0 ≡ q.0 = p.3.1 ∙ sym q.3.1 in
    let found : p.1 ≡ q.1 = p.3.2 ∙ sym q.3.2 in
    p.2 ∙ (λ i. Fault.Refused (Length (expected i) (found i))) ∙ sym q.2

-- the reasons for which no record is removed, memory aside
abbrev Reasons : ℕ → SessionContents → Fault → Type 0
Reasons n contents f =
    ((f ≡ NoRecord) × ((n ≡ 0) ⊎ (length contents.records < n)))
    ⊎ (((k : ℕ) × FailsAfter n contents.records k (CannotSwap n k f))
    ⊎ ((refused : Refused) × (f ≡ Fault.Refused refused) × UndoFails n contents refused))

refails : (n k : ℕ) (js : List JournalEntry) (Q R : EditList → EditList → Type 0) → ((a b : EditList) → Q a b → R a b) → FailsAfter n js k Q → FailsAfter n js k R
refails n k js Q R proceeds s = record {
  nth = s.nth;
  fails = record {
    swapped_lists = s.fails.swapped_lists;
    moved_edits = s.fails.moved_edits;
    next = s.fails.next;
    is_moved = s.fails.is_moved;
    next_is = s.fails.next_is;
    refuses = proceeds s.fails.moved_edits s.fails.next s.fails.refuses;
  };
}

reasons : (n : ℕ) (contents : SessionContents) {f : Fault} → RefusesTake n contents f → (f ≡ Memory) ⊎ Reasons n contents f
reasons n contents (no_record none) = inr (inl (refl, none))
reasons n contents (blocked {k} s) =
    inr (inr (inl (k, refails n k contents.records SomeMeet (CannotSwap n k (Blocked (n + k + 1))) (λ a b m. inr (inl (refl, m))) s)))
reasons n contents (too_long {k} s) =
    inr (inr (inl (k, refails n k contents.records SwapIsTooLong (CannotSwap n k TooLong) (λ a b m. inl (refl, m)) s)))
reasons n contents (lengths_differ {k} {expected} {found} s) =
    inr (inr (inl (k, refails n k contents.records (λ a b. LengthMismatch a b expected found) (CannotSwap n k (Fault.Refused (Length expected found))) (λ a b m. inr (inr (expected, found, refl, m))) s)))
reasons n contents (not_undone {refused} u) = inr (inr (inr (refused, refl, u)))
reasons n contents (memory may) = inl refl

same_records : (rs ss : List JournalEntry) → edits_of rs ≡ edits_of ss → words_of rs ≡ words_of ss → rs ≡ ss
same_records [] [] e w = refl
same_records [] (s ∷ ss) e w = absurd cc
same_records (r ∷ rs) [] e w = absurd cc
same_records (r ∷ rs) (s ∷ ss) e w =
    let edits : r.edits ≡ s.edits = cc in
    let word : r.word ≡ s.word = cc in
    let lists : edits_of rs ≡ edits_of ss = cc in
    let words : words_of rs ≡ words_of ss = cc in
    let rest = same_records rs ss lists words in
    let same : r ≡ s = λ i. record { word = word i; edits = edits i } in
    λ i. same i ∷ rest i

module _ (one_swap : SwapIsUnique) (takes_one : MoveToEndIsUnique) (unique : ChangeResultIsUnique) where
  -- moved after all later records, the edits of record n are one list, and those are one list each
  moved_once : (n : ℕ) (js : List JournalEntry) (nth other : Nth n js) (cs ds : List EditList) (a b : EditList)
      → IsMovedToEnd nth.item.edits (edits_of nth.after) cs a → IsMovedToEnd other.item.edits (edits_of other.after) ds b → (cs ≡ ds) × (a ≡ b)
  moved_once n js nth other cs ds a b p q =
      let h = nth_once js nth.before other.before nth.after other.after nth.item other.item nth.all other.all (numbers n (length nth.before) (length other.before) nth.number other.number) in
      let moved = subst (λ (x : JournalEntry). IsMovedToEnd x.edits (edits_of nth.after) ds b) (sym h.1)
      (subst (λ (x : List JournalEntry). IsMovedToEnd other.item.edits (edits_of x) ds b) (sym h.2) q) in
      (takes_one nth.item.edits (edits_of nth.after)).one cs ds a b p moved

  one_removed : (n : ℕ) (contents : SessionContents) (d e : Done) (new other : SessionContents) → RemovesRecord n contents d new → RemovesRecord n contents e other → (d ≡ e) × (new ≡ other)
  one_removed n contents d e new other p q =
      let h = nth_once contents.records p.nth.before q.nth.before p.nth.after q.nth.after p.nth.item q.nth.item p.nth.all q.nth.all (numbers n (length p.nth.before) (length q.nth.before) p.nth.number q.nth.number) in
      let moved = moved_once n contents.records p.nth q.nth (edits_of p.new_records) (edits_of q.new_records) p.moved_edits q.moved_edits p.is_moved q.is_moved in
      let words = p.words ∙ ap (λ (x : List JournalEntry). words_of x) h.2 ∙ sym q.words in
      let others = same_records p.new_records q.new_records moved.0 words in
      let text : new.text ≡ other.text = sym (p.only other.text (subst (λ (x : EditList). Transforms x other.text contents.text) (sym moved.1) q.transforms)) in
      let records : new.records ≡ other.records = p.records ∙ (λ i. h.0 i ++ others i) ∙ sym q.records in
      let answer : d ≡ e = p.done_is ∙ ap (λ (x : List ℕ). done (texts_differ x contents.text) 0 0) text ∙ sym q.done_is in
      let same : new ≡ other = λ i. record { text = text i; records = records i } in
      (answer, same)

  out_or_refused : (n : ℕ) (contents : SessionContents) (d : Done) (new : SessionContents) (f : Fault) → RemovesRecord n contents d new → (f ≡ Memory) ⊎ Reasons n contents f → f ≡ Memory
  out_or_refused n contents d new f p (inl q) = q
  out_or_refused n contents d new f p (inr (inl q)) = absurd (there_is n contents.records p.nth q.1)
  out_or_refused n contents d new f p (inr (inr (inl q))) =
      absurd (passed_or_stuck one_swap (CannotSwap n q.0 f) (swap_excludes n q.0 f) n q.0 contents.records p.nth (edits_of p.new_records) p.moved_edits p.is_moved q.1)
  out_or_refused n contents d new f p (inr (inr (inr q))) =
      let moved = moved_once n contents.records p.nth q.2.nth (edits_of p.new_records) q.2.new_lists p.moved_edits q.2.moved_edits p.is_moved q.2.is_moved in
      absurd (undone_or_refused unique q.2.moved_edits contents.text new.text q.0 q.2.refuses (subst (λ (x : EditList). Transforms x new.text contents.text) moved.1 p.transforms))

  one_refusal : (n : ℕ) (contents : SessionContents) (f g : Fault) → Reasons n contents f → Reasons n contents g → f ≡ g
  one_refusal n contents f g (inl p) (inl q) = p.0 ∙ sym q.0
  one_refusal n contents f g (inl p) (inr (inl q)) = absurd (there_is n contents.records q.1.nth p.1)
  one_refusal n contents f g (inl p) (inr (inr q)) = absurd (there_is n contents.records q.2.nth p.1)
  one_refusal n contents f g (inr (inl p)) (inl q) = absurd (there_is n contents.records p.1.nth q.1)
  one_refusal n contents f g (inr (inl p)) (inr (inl q)) =
      let s = stuck_same one_swap (CannotSwap n p.0 f) (CannotSwap n q.0 g) (swap_excludes n p.0 f) (swap_excludes n q.0 g) n p.0 q.0 contents.records p.1 q.1 in
      one_reason n p.0 f g s.1 s.2 s.3 (subst (λ (k : ℕ). CannotSwap n k g s.1 s.2) (sym s.0) s.4)
  one_refusal n contents f g (inr (inl p)) (inr (inr q)) =
      absurd (passed_or_stuck one_swap (CannotSwap n p.0 f) (swap_excludes n p.0 f) n p.0 contents.records q.2.nth q.2.new_lists q.2.moved_edits q.2.is_moved p.1)
  one_refusal n contents f g (inr (inr p)) (inl q) = absurd (there_is n contents.records p.2.nth q.1)
  one_refusal n contents f g (inr (inr p)) (inr (inl q)) =
      absurd (passed_or_stuck one_swap (CannotSwap n q.0 g) (swap_excludes n q.0 g) n q.0 contents.records p.2.nth p.2.new_lists p.2.moved_edits p.2.is_moved q.1)
  one_refusal n contents f g (inr (inr p)) (inr (inr q)) =
      let moved = moved_once n contents.records p.2.nth q.2.nth p.2.new_lists q.2.new_lists p.2.moved_edits q.2.moved_edits p.2.is_moved q.2.is_moved in
      let other = subst (λ (x : EditList). IsChangeResult Backward x contents.text (Err q.0)) (sym moved.1) q.2.refuses in
      let results = unique Backward p.2.moved_edits contents.text (Err p.0) (Err q.0) p.2.refuses other in
      let same : p.0 ≡ q.0 = cc in
      p.1 ∙ ap (λ (x : Refused). Fault.Refused x) same ∙ sym q.1

  one_or_memory : (n : ℕ) (contents : SessionContents) (f g : Fault) → (f ≡ Memory) ⊎ Reasons n contents f → (g ≡ Memory) ⊎ Reasons n contents g → (f ≡ g) ⊎ (f ≡ Memory) ⊎ (g ≡ Memory)
  one_or_memory n contents f g (inl p) q = inr (inl p)
  one_or_memory n contents f g (inr p) (inl q) = inr (inr q)
  one_or_memory n contents f g (inr p) (inr q) = inl (one_refusal n contents f g p q)

  pub take_is_unique_over_records : (n : ℕ) (contents : SessionContents) → TakeResultIsUniqueOverRecords n contents
  take_is_unique_over_records n contents = record {
    one_result = λ d e new other p q. one_removed n contents d e new other p q;
    not_both = λ d new f p q. out_or_refused n contents d new f p (reasons n contents q);
    one_reason = λ f g p q. one_or_memory n contents f g (reasons n contents p) (reasons n contents q);
  }
