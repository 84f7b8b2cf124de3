-- One record after another.
use Rattle.std.proofs.Common.{◌≡◌, ℕ, zero, suc, ◌+◌, ◌≤◌, ◌<◌, List, [], ◌∷◌, ◌++◌, length, take, get_or, Option, Some, None, Err, refl, sym, ap, ◌∙◌, subst, arith}
use Rattle.std.proofs.lemmas.List.{take_more, map_push, take-map, take_all}
use Rattle.edit_record.specs.Lists.Pieces.{EditList}
use Rattle.edit_record.specs.Lists.Journal.{JournalEntry, edits_of, words_of}
use Rattle.edit_record.specs.Swaps.Swap.{IsItem, SwapTo, SwapMayAllocate}
use Rattle.edit_record.specs.Swaps.MoveToEnd.{IsMovedToEnd}
use Rattle.edit_record.specs.Swaps.MoveToEndResult.{moved_or, LengthMismatch, SomeMeet, SwapIsTooLong, CanSwap, MoveMayAllocate, FailsAt, IsMoveToEndResult}
use Rattle.edit_record.specs.Swaps.Inner.MovePastResult.{IsMovePastResult}
use Rattle.edit_record.specs.Swaps.Inner.MovingEditsView.{MovesPastRecord}
use Rattle.edit_record.specs.declared.swaps.moving_edits.MovingEdits.{MovingEdits}
use Rattle.edit_record.specs.declared.swaps.reorder.MoveFault.{MoveFault}
use Rattle.edit_record.specs.declared.swaps.reorder.MoveFault.TheVariants.{Length, Blocked, TooLong, Memory}

moved_to_end_push : (a : EditList) (bs cs : List EditList) (n b c m : EditList) → IsMovedToEnd a bs cs n → SwapTo n b c m → IsMovedToEnd a (bs ++ b ∷ []) (cs ++ c ∷ []) m
moved_to_end_push a [] [] n b c m h s = (m, subst (λ (x : EditList). SwapTo x b c m) (sym h) s, refl)
moved_to_end_push a [] (d ∷ cs) n b c m h s = absurd h
moved_to_end_push a (e ∷ bs) [] n b c m h s = absurd h
moved_to_end_push a (e ∷ bs) (d ∷ cs) n b c m h s = (h.0, h.1, moved_to_end_push h.0 bs cs n b c m h.2 s)

-- what is done of the records
pub record MovedUpTo (first : EditList) (records others : List JournalEntry) (moved : Option EditList) (i : ℕ) : Type 0 where
  pub is_moved : IsMovedToEnd first (edits_of (take i records)) (edits_of others) (moved_or first moved)
  pub words : words_of others ≡ words_of (take i records)

moved_next : (records : List JournalEntry) (i : ℕ) (r : JournalEntry) → i < length records → r ≡ get_or records i r → take (i + 1) records ≡ take i records ++ r ∷ []
moved_next records i r lt is = take_more records i r lt ∙ ap (λ (x : JournalEntry). take i records ++ x ∷ []) (sym is)

pub move_more : (first : EditList) (records others next : List JournalEntry) (moved : Option EditList) (i : ℕ) (r before : JournalEntry) (after : EditList) → i < length records → r ≡ get_or records i r → MovedUpTo first records others moved i
    → SwapTo (moved_or first moved) r.edits before.edits after × (before.word ≡ r.word) → next ≡ others ++ before ∷ [] → MovedUpTo first records next (Some after) (i + 1)
move_more first records others next moved i r before after lt is p s next_is =
    let t = moved_next records i r lt is in
    let bs : edits_of (take (i + 1) records) ≡ edits_of (take i records) ++ r.edits ∷ [] = ap edits_of t ∙ map_push (λ x. x.edits) (take i records) r in
    let cs : edits_of next ≡ edits_of others ++ before.edits ∷ [] = ap edits_of next_is ∙ map_push (λ x. x.edits) others before in
    let vs : words_of (take (i + 1) records) ≡ words_of (take i records) ++ r.word ∷ [] = ap words_of t ∙ map_push (λ x. x.word) (take i records) r in
    let ws : words_of next ≡ words_of others ++ before.word ∷ [] = ap words_of next_is ∙ map_push (λ x. x.word) others before in
    record {
      is_moved = rw (bs, cs) (moved_to_end_push first (edits_of (take i records)) (edits_of others) (moved_or first moved) r.edits before.edits after p.is_moved s.0);
      words = ws ∙ (λ j. p.words j ++ s.1 j ∷ []) ∙ sym vs;
    }

at_item : (records : List JournalEntry) (i : ℕ) (r : JournalEntry) → i < length records → r ≡ get_or records i r → IsItem i r.edits (edits_of records)
at_item [] i r lt is = absurd (omega arith)
at_item (x ∷ records) zero r lt is = ap (λ (y : JournalEntry). y.edits) is
at_item (x ∷ records) (suc i) r lt is = at_item records i r (omega arith) is

stuck : (first : EditList) (records others : List JournalEntry) (moved : Option EditList) (i : ℕ) (r : JournalEntry) (Refuses : EditList → EditList → Type 0) → i < length records → r ≡ get_or records i r → MovedUpTo first records others moved i
    → Refuses (moved_or first moved) r.edits → FailsAt first (edits_of records) i Refuses
stuck first records others moved i r Refuses lt is p h = record {
  swapped_lists = edits_of others;
  moved_edits = moved_or first moved;
  next = r.edits;
  is_moved = subst (λ (bs : List EditList). IsMovedToEnd first bs (edits_of others) (moved_or first moved)) (sym (take-map (λ x. x.edits) i records)) p.is_moved;
  next_is = at_item records i r lt is;
  refuses = h;
}

pub may_swap : (a b : EditList) → SwapMayAllocate a b → CanSwap a b
may_swap a b m = (m.lengths_match, m.apart, m.within)

pub did_swap : (a b b2 a2 : EditList) → SwapTo a b b2 a2 → CanSwap a b
did_swap a b b2 a2 p = (p.lengths_match, p.apart, p.within)

none_moved : (a : EditList) (cs : List EditList) (last : EditList) → IsMovedToEnd a [] cs last → a ≡ last
none_moved a [] last h = h
none_moved a (c ∷ cs) last h = absurd h

one_moved : (a b : EditList) (bs cs : List EditList) (last : EditList) → IsMovedToEnd a (b ∷ bs) cs last → CanSwap a b
one_moved a b bs [] last h = absurd h
one_moved a b bs (c ∷ cs) last h = did_swap a b c h.0 h.1

-- memory is taken for some record, and so it may have been for the first
pub may_run_out : (first : EditList) (records others : List JournalEntry) (moved : Option EditList) (i : ℕ) (r : JournalEntry) → i < length records → r ≡ get_or records i r → MovedUpTo first records others moved i
    → CanSwap (moved_or first moved) r.edits → MoveMayAllocate first records
may_run_out first [] others moved i r lt is p h = absurd (omega arith)
may_run_out first (x ∷ records) others moved zero r lt is p h =
    let same = none_moved first (edits_of others) (moved_or first moved) p.is_moved in
    subst (λ (y : JournalEntry). CanSwap first y.edits) is (subst (λ (y : EditList). CanSwap y r.edits) (sym same) h)
may_run_out first (x ∷ records) others moved (suc i) r lt is p h = one_moved first x.edits (edits_of (take i records)) (edits_of others) (moved_or first moved) p.is_moved

none_move : (first : EditList) (records others : List JournalEntry) (moved : Option EditList) (i : ℕ) (r : JournalEntry) (e : MoveFault) → i < length records → r ≡ get_or records i r → MovedUpTo first records others moved i
    → IsMovePastResult (moved_or first moved) r i (Err e) → IsMoveToEndResult first records (Err e)
none_move first records others moved i r (Length expected found) lt is p h = (i, stuck first records others moved i r (λ n b. LengthMismatch n b expected found) lt is p h)
none_move first records others moved i r (Blocked k) lt is p h = subst (λ (n : ℕ). FailsAt first (edits_of records) n SomeMeet) (sym h.0) (stuck first records others moved i r SomeMeet lt is p h.1)
none_move first records others moved i r TooLong lt is p h = (i, stuck first records others moved i r SwapIsTooLong lt is p h)
none_move first records others moved i r Memory lt is p h = may_run_out first records others moved i r lt is p h

pub move_none : (first a : EditList) (records others : List JournalEntry) (moved : Option EditList) (i : ℕ) (r : JournalEntry) (e : MoveFault) → a ≡ moved_or first moved → i < length records → r ≡ get_or records i r → MovedUpTo first records others moved i
    → IsMovePastResult a r i (Err e) → IsMoveToEndResult first records (Err e)
move_none first a records others moved i r e a_is lt is p h = none_move first records others moved i r e lt is p (subst (λ (x : EditList). IsMovePastResult x r i (Err e)) a_is h)

pub none_is_moved : (first : EditList) (records : List JournalEntry) → MovedUpTo first records [] None 0
none_is_moved first records = record { is_moved = refl; words = refl }

-- a record is done, and so the first one changed places
run_out_at : (first : EditList) (records others : List JournalEntry) (moved : Option EditList) (i : ℕ) → 0 < length records → MovedUpTo first records others moved (suc i) → MoveMayAllocate first records
run_out_at first [] others moved i lt p = absurd (omega (arith, lt))
run_out_at first (x ∷ records) others moved i lt p = one_moved first x.edits (edits_of (take i records)) (edits_of others) (moved_or first moved) p.is_moved

pub run_out_later : (first : EditList) (records others : List JournalEntry) (moved : Option EditList) (i : ℕ) → 0 < length records → 0 < i → MovedUpTo first records others moved i → MoveMayAllocate first records
run_out_later first records others moved zero some lt p = absurd (omega (arith, lt))
run_out_later first records others moved (suc i) some lt p = run_out_at first records others moved i some p

pub moves_none : (first a : EditList) (records others : List JournalEntry) (n : MovingEdits) (i : ℕ) (r : JournalEntry) (e : MoveFault) → i < length records → r ≡ get_or records i r → MovedUpTo first records others (Some a) i → MovesPastRecord a r i n (Err e)
    → IsMoveToEndResult first records (Err e)
moves_none first a records others n i r (Length expected found) lt is p h = none_move first records others (Some a) i r (Length expected found) lt is p h
moves_none first a records others n i r (Blocked k) lt is p h = none_move first records others (Some a) i r (Blocked k) lt is p h
moves_none first a records others n i r TooLong lt is p h = none_move first records others (Some a) i r TooLong lt is p h
moves_none first a records others n i r Memory lt is p h = none_move first records others (Some a) i r Memory lt is p h

-- all records are done
pub all_are_moved : (first a : EditList) (records others : List JournalEntry) (i : ℕ) → length records ≤ i → MovedUpTo first records others (Some a) i
    → IsMovedToEnd first (edits_of records) (edits_of others) a × (words_of others ≡ words_of records)
all_are_moved first a records others i le p =
    let all : take i records ≡ records = take_all i records le in
    (subst (λ (rs : List JournalEntry). IsMovedToEnd first (edits_of rs) (edits_of others) a) all p.is_moved, p.words ∙ ap words_of all)
