-- The removal of one record from a journal.
use Rattle.std.proofs.Common.{◌≡◌, ◌∙◌, ◌↔◌, ◌≤◌, ◌<◌, ◌+◌, ◌-◌, ℕ, zero, suc, List, [], ◌∷◌, ◌++◌, length, take, drop, get_or, Result, Ok, Err, IfOk, refl, sym, ap, subst, arith, append_assoc, inl, inr}
use Rattle.std.proofs.lemmas.List.{take_more, take-append-drop, length-take-le, length-map, length-drop, take_all}
use Rattle.std.specs.Global.{Vec}
use Rattle.edit_record.specs.Lists.Journal.{JournalEntry, edits_of, words_of}
use Rattle.edit_record.specs.Lists.Apply.{apply_edits}
use Rattle.edit_record.specs.Lists.Pieces.{EditList, Transforms}
use Rattle.edit_record.specs.Lists.ChangeResults.{IsChangeCallResult, AgreesWith}
use Rattle.edit_record.specs.declared.lists.change.Refused.{Refused}
use Rattle.edit_record.specs.declared.lists.direction.Direction.TheVariants.{Backward}
use Rattle.edit_record.specs.declared.swaps.reorder.MoveFault.{MoveFault}
use Rattle.edit_record.specs.declared.swaps.reorder.MoveFault.TheVariants.{Length, Blocked, TooLong, Memory}
use Rattle.edit_record.specs.Swaps.Swap.{IsItem}
use Rattle.edit_record.specs.Swaps.MoveToEnd.{IsMovedToEnd}
use Rattle.edit_record.specs.Swaps.MoveToEndResult.{IsMoveToEndResult}
use Rattle.tf_session.specs.declared.command.Fault.{Fault}
use Rattle.tf_session.specs.Inner.Faults.{fault_of_refused}
use Rattle.tf_lint.specs.Steps.{texts_differ}
use Rattle.tf_session.specs.Machine.{done}
use Rattle.tf_session.specs.NthItem.{Nth}
use Rattle.tf_session.specs.RemovingRecord.{RemovesRecord, RefusesTake, TakeMayAllocate}
use Rattle.tf_session.specs.Inner.Faults.{fault_of_move, counted_records}
use Rattle.tf_session.specs.RemovingRecord.RefusesTake.{not_undone, lengths_differ, blocked, too_long, memory}
use Rattle.tf_session.specs.Session.{SessionContents, with_records}

-- what undoing edits answers, by the laws of edits
abbrev pub Undoes : EditList → Type 0
Undoes e = (t u : List ℕ) → (apply_edits Backward e u ≡ Ok t) ↔ Transforms e t u

-- the text that undoing gives is the only one
pub only_old : (e : EditList) (u : List ℕ) (result : Result (Vec ℕ) Refused) → Undoes e → AgreesWith result (apply_edits Backward e u) → IfOk result (λ old. (v : List ℕ) → Transforms e v u → v ≡ old.items)
only_old e u (Ok old) exact is = λ v turns. let other : apply_edits Backward e u ≡ Ok v = (exact v u).1 turns in cc
only_old e u (Err refused) exact is = tt

-- the slice after record n
abbrev pub rest_of : ℕ → List JournalEntry → List JournalEntry
rest_of n rs = take (length rs - n) (drop n rs)

rest_is : (n : ℕ) (rs : List JournalEntry) → rest_of n rs ≡ drop n rs
rest_is n rs = let l = length-drop n rs in take_all (length rs - n) (drop n rs) (omega (arith, l))

next_all : (n : ℕ) (rs : List JournalEntry) (r : JournalEntry) → n < length rs → r ≡ get_or rs n r → rs ≡ take n rs ++ r ∷ drop (n + 1) rs
next_all n rs r lt is =
    sym (take-append-drop (n + 1) rs)
    ∙ ap (λ (x : List JournalEntry). x ++ drop (n + 1) rs) (take_more rs n r lt ∙ ap (λ (x : JournalEntry). take n rs ++ x ∷ []) (sym is))
    ∙ append_assoc (take n rs) (r ∷ []) (drop (n + 1) rs)

module _ (n : ℕ) (rs : List JournalEntry) (r : JournalEntry) (pos : 1 ≤ n) (le : n ≤ length rs) (is : r ≡ get_or rs (n - 1) r) where
  all_of : rs ≡ take (n - 1) rs ++ r ∷ rest_of n rs
  all_of =
      let e : n - 1 + 1 ≡ n = omega (arith, pos) in
      subst (λ (x : List JournalEntry). rs ≡ take (n - 1) rs ++ r ∷ x) (sym (rest_is n rs))
      (subst (λ (k : ℕ). rs ≡ take (n - 1) rs ++ r ∷ drop k rs) e (next_all (n - 1) rs r (omega (arith, pos, le)) is))

  number_of : n ≡ length (take (n - 1) rs) + 1
  number_of = let l = length-take-le (n - 1) rs (omega (arith, le)) in omega (arith, pos, l)

  abbrev nth_of : Nth n rs
  nth_of = record { before = take (n - 1) rs; item = r; after = rest_of n rs; all = all_of; number = number_of }

  pub made : (t u : List ℕ) (others : List JournalEntry) (deleted : EditList) → IsMovedToEnd r.edits (edits_of (rest_of n rs)) (edits_of others) deleted → words_of others ≡ words_of (rest_of n rs)
      → Transforms deleted u t → ((v : List ℕ) → Transforms deleted v t → v ≡ u) → RemovesRecord n (with_records t rs) (done (texts_differ u t) 0 0) (with_records u (take (n - 1) rs ++ others))
  made t u others deleted taken words turns initial_stack = record {
    nth = nth_of;
    new_records = others;
    moved_edits = deleted;
    is_moved = taken;
    words = words;
    transforms = turns;
    only = initial_stack;
    records = refl;
    done_is = refl;
  }

  pub not_back : (t : List ℕ) (others : List EditList) (deleted : EditList) (refused : Refused) → IsMovedToEnd r.edits (edits_of (rest_of n rs)) others deleted → IsChangeCallResult Backward deleted t (Err refused) → RefusesTake n (with_records t rs) (fault_of_refused refused)
  not_back t others deleted (Refused.Length expected found) taken not = not_undone (record { nth = nth_of; new_lists = others; moved_edits = deleted; is_moved = taken; refuses = not })
  not_back t others deleted (Refused.Differs step edit) taken not = not_undone (record { nth = nth_of; new_lists = others; moved_edits = deleted; is_moved = taken; refuses = not })
  not_back t others deleted Refused.Memory taken len = memory (nth_of, inr (others, deleted, taken, len))

  pub refuses : (t : List ℕ) (e : MoveFault) → IsMoveToEndResult r.edits (rest_of n rs) (Err e) → RefusesTake n (with_records t rs) (fault_of_move n e)
  refuses t (Length expected found) h = lengths_differ {k = h.0} (record { nth = nth_of; fails = h.1 })
  refuses t (Blocked k) h = blocked {k = k} (record { nth = nth_of; fails = h })
  refuses t TooLong h = too_long {k = h.0} (record { nth = nth_of; fails = h.1 })
  refuses t Memory h = memory (nth_of, inl h)

at_short : {X : Type 0} (i : ℕ) (x : X) (xs : List X) → IsItem i x xs → i < length xs
at_short i x [] h = absurd h
at_short zero x (y ∷ ys) h = omega arith
at_short (suc i) x (y ∷ ys) h = let l = at_short i x ys h in omega (arith, l)

-- the number of the record that refuses is one of those of the journal
pub short : (n : ℕ) (rs : List JournalEntry) (a : EditList) (e : MoveFault) → n ≤ length rs → IsMoveToEndResult a (rest_of n rs) (Err e) → n + counted_records e ≤ length rs
short n rs a (Length expected found) le h = omega (arith, le)
short n rs a (Blocked k) le h =
    let l = at_short k h.next (edits_of (rest_of n rs)) h.next_is in
    let m = length-map (rest_of n rs) (λ (x : JournalEntry). x.edits) in
    let s = ap length (rest_is n rs) in
    let d = length-drop n rs in
    omega (arith, l, m, s, d, le)
short n rs a TooLong le h = omega (arith, le)
short n rs a Memory le h = omega (arith, le)

-- memory runs out only if it is allocated
pub may_allocate : (n : ℕ) (contents : SessionContents) → RefusesTake n contents Fault.Memory → TakeMayAllocate n contents
may_allocate n contents (memory may) = may
