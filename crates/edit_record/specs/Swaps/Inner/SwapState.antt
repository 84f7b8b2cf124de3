-- Swapping two lists of edits: the state between two steps, and each step as a function.
use Rattle.std.specs.Prelude.{◌≡◌, ◌↔◌, ℕ, ◌+◌, ◌-◌, ◌^◌, ◌≤◌, ◌<◌, List, [], ◌∷◌, ◌++◌, length, Bool, true}
use Rattle.std.specs.Prelude.{false, nat_lt}
use Rattle.edit_record.specs.Lists.Pieces.{EditEntry, EditList, Transforms, as_list, removed_len, added_len}
use Rattle.edit_record.specs.Lists.Validity.{AreDisjoint, AreValidEdits, new_len}
use Rattle.edit_record.specs.Swaps.Swap.{NoneMeet, AreRelocated}
use Rattle.edit_record.specs.Squashes.Groups.{added_spans, removed_spans}

-- the next edit begins after `from`
abbrev pub StartsAfter : ℕ → List EditEntry → Type 0
StartsAfter from [] = Unit {0}
StartsAfter from (e ∷ es) = from < e.at

-- the edit, as far after `to` as it was after `from`
abbrev pub relocate : ℕ → EditEntry → ℕ → EditEntry
relocate from e to = record { at = to + (e.at - from); removed = e.removed; added = e.added }

-- xs and ys are the edits that are left of a list and of one that follows it, us and vs those of
-- the two in the other order. The offsets are those after the edits that are done: in the old text,
-- in the text between, and in the text between of the other order. The moves say of which list the
-- next edit is: it ends before the next one of the other list begins.
abbrev pub IsSwapTrace : List Bool → ℕ → ℕ → ℕ → List EditEntry → List EditEntry → List EditEntry
    → List EditEntry
    → Type 0
IsSwapTrace [] old mid other [] [] [] [] = Unit {0}
IsSwapTrace (true ∷ ms) old mid other (x ∷ xs) ys us (v ∷ vs) =
    (v ≡ relocate old x other) × StartsAfter (mid + (x.at - old) + length x.added) ys
    × IsSwapTrace ms (x.at + length x.removed) (mid + (x.at - old) + length x.added)
    (other + (x.at - old) + length x.removed) xs ys us vs
IsSwapTrace (false ∷ ms) old mid other xs (y ∷ ys) (u ∷ us) vs =
    (u ≡ relocate mid y old) × StartsAfter (old + (y.at - mid) + length y.removed) xs
    × IsSwapTrace ms (old + (y.at - mid) + length y.removed) (y.at + length y.removed)
    (other + (y.at - mid) + length y.added) xs ys us vs
IsSwapTrace _ old mid other _ _ _ _ = ⊥

-- the edits that are done, and the offsets after them
pub record State : Type 0 where
  pub old : ℕ
  pub mid : ℕ
  pub other : ℕ
  pub us : List EditEntry
  pub vs : List EditEntry

-- whether the next edit of the one list ends before the next edit of the other begins
abbrev pub first_is_next : State → List EditEntry → List EditEntry → Bool
first_is_next s [] ys = false
first_is_next s (x ∷ xs) [] = true
first_is_next s (x ∷ xs) (y ∷ ys) = nat_lt ((x.at - s.old) + length x.added) (y.at - s.mid)

abbrev pub second_is_next : State → List EditEntry → List EditEntry → Bool
second_is_next s xs [] = false
second_is_next s [] (y ∷ ys) = true
second_is_next s (x ∷ xs) (y ∷ ys) = nat_lt ((y.at - s.mid) + length y.removed) (x.at - s.old)

abbrev pub with_first : EditEntry → State → State
with_first x s = record {
  old = x.at + length x.removed;
  mid = s.mid + (x.at - s.old) + length x.added;
  other = s.other + (x.at - s.old) + length x.removed;
  us = s.us;
  vs = s.vs ++ relocate s.old x s.other ∷ [];
}

abbrev pub with_second : EditEntry → State → State
with_second y s = record {
  old = s.old + (y.at - s.mid) + length y.removed;
  mid = y.at + length y.removed;
  other = s.other + (y.at - s.mid) + length y.added;
  us = s.us ++ relocate s.mid y s.old ∷ [];
  vs = s.vs;
}

abbrev pub take_first : State → List EditEntry → List EditEntry → State × List EditEntry
take_first s [] ys = (s, [])
take_first s (x ∷ xs) ys = (with_first x s, xs)

abbrev pub take_second : State → List EditEntry → List EditEntry → State × List EditEntry
take_second s xs [] = (s, [])
take_second s xs (y ∷ ys) = (with_second y s, ys)

-- the state with other edits done
abbrev pub with_edits : List EditEntry → List EditEntry → State → State
with_edits us vs s = record { old = s.old; mid = s.mid; other = s.other; us = us; vs = vs }

-- the offsets after the next edit of either list, which is not stored
abbrev pub skip_first : State → List EditEntry → State × List EditEntry
skip_first s [] = (s, [])
skip_first s (x ∷ xs) = (with_edits s.us s.vs (with_first x s), xs)

abbrev pub skip_second : State → List EditEntry → State × List EditEntry
skip_second s [] = (s, [])
skip_second s (y ∷ ys) = (with_edits s.us s.vs (with_second y s), ys)

-- what holds between two steps, for edits of texts of la and lb bytes, where the second list adds
-- ab bytes and removes rb
pub record SwapInvariant (la lb ab rb : ℕ) (s : State) (xs ys : List EditEntry) : Type 0 where
  pub a_fits : la ≤ 2 ^ 32
  pub b_fits : lb ≤ 2 ^ 32
  pub w_fits : ab ≤ 2 ^ 32
  pub first_placed : AreDisjoint la s.old xs
  pub second_placed : AreDisjoint lb s.mid ys
  pub mid_balance : s.mid + la + added_len xs ≡ lb + s.old + removed_len xs
  pub other_balance : s.other + rb + added_len ys ≡ s.old + ab + removed_len ys

abbrev pub HoldsInvariant : State → List EditEntry → List EditEntry → Type 0
HoldsInvariant s xs ys =
    (la : ℕ) × (lb : ℕ) × (ab : ℕ) × (rb : ℕ) × SwapInvariant la lb ab rb s xs ys

-- nothing is done
abbrev pub initial : State
initial = record { old = 0; mid = 0; other = 0; us = []; vs = [] }

-- what holds where both lists are done
pub record IsSwapDone (a b : EditList) (s : State) : Type 0 where
  pub first_made : AreValidEdits a.old_len (new_len a) a.entries
  pub second_made : AreValidEdits b.old_len (new_len b) b.entries
  pub apart : NoneMeet a b
  pub within : s.old ≤ a.old_len
  pub small : s.other ≤ 2 ^ 40
  pub len : (a.old_len - s.old + s.other) + removed_len b.entries ≡ a.old_len + added_len b.entries
  pub seconds : AreRelocated (added_spans 0 0 a.entries) (removed_spans b.entries) b.entries s.us
  pub firsts : AreRelocated (removed_spans b.entries) (added_spans 0 0 a.entries) a.entries s.vs
  pub us_placed : AreDisjoint a.old_len 0 s.us
  pub vs_placed : AreDisjoint (a.old_len - s.old + s.other) 0 s.vs
  pub equivalent : (t v : List ℕ)
      → ((u : List ℕ) × Transforms a t u × Transforms b u v)
      ↔ ((u : List ℕ) × Transforms (as_list a.old_len s.us) t u
      × Transforms (as_list (a.old_len - s.old + s.other) s.vs) u v)
