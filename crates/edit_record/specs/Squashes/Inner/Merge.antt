-- The merge: the state between two steps, and each step as a function. Its result is defined in
-- Squash and Groups, which do not depend on this.
use Rattle.std.specs.Prelude.{◌≡◌, ℕ, ◌+◌, ◌-◌, ◌≤◌, List, [], ◌∷◌, ◌++◌, length, take, drop, min, ⊤, Bool}
use Rattle.std.specs.Prelude.{true, false, nat_le, ◌==◌, ◌&&◌, if◌then◌else◌}
use Rattle.edit_record.specs.Lists.Pieces.{EditEntry, removed_len, added_len}
use Rattle.edit_record.specs.declared.lists.edits.TheConstants.{MAX_TEXT}
use Rattle.edit_record.specs.Lists.Validity.{AreDisjoint}

-- two lists on the way to one, from left to right
pub record State : Type 0 where
  -- the edits that are done
  pub out : List EditEntry
  -- the edit that is being made, which may still be empty
  pub at : ℕ
  pub removed : List ℕ
  pub added : List ℕ
  -- bytes that the first list added and the second has not reached, and such that the second
  -- removed and the first has not reached
  pub first_pending : List ℕ
  pub second_pending : List ℕ
  -- the offsets after these, in the old text of the first list and in that of the second
  pub first_end : ℕ
  pub second_end : ℕ
  -- which lists have a part in the edit that is being made
  pub has_first : Bool
  pub has_second : Bool

-- the edits with one more, if it is not empty
abbrev pub push_nonempty : List EditEntry → EditEntry → List EditEntry
push_nonempty out e =
    if (length e.removed == 0) && (length e.added == 0) then out else out ++ e ∷ []

-- the edit that is being made ends; what the one list has left, the other keeps
abbrev pub finish_edit : State → State
finish_edit s = record {
  out = push_nonempty s.out (record {
    at = s.at;
    removed = s.removed ++ s.second_pending;
    added = s.added ++ s.first_pending;
  });
  at = s.first_end + length s.second_pending;
  removed = [];
  added = [];
  first_pending = [];
  second_pending = [];
  first_end = s.first_end + length s.second_pending;
  second_end = s.second_end + length s.first_pending;
  has_first = false;
  has_second = false;
}

-- both lists keep n bytes
abbrev pub skip_kept : ℕ → State → State
skip_kept n s =
    record s { at = s.at + n; first_end = s.first_end + n; second_end = s.second_end + n }

-- with the next edit of the first list, after bytes that the second removed and the first keeps
abbrev pub with_first : EditEntry → State → State
with_first e s = record s {
  removed = s.removed ++ take (e.at - s.first_end) s.second_pending ++ e.removed;
  first_pending = e.added;
  second_pending = drop (e.at - s.first_end) s.second_pending;
  first_end = e.at + length e.removed;
  has_first = true;
}

-- with the next edit of the second list, after bytes that the first added and the second keeps
abbrev pub with_second : EditEntry → State → State
with_second e s = record s {
  added = s.added ++ take (e.at - s.second_end) s.first_pending ++ e.added;
  first_pending = drop (e.at - s.second_end) s.first_pending;
  second_pending = e.removed;
  second_end = e.at + length e.removed;
  has_second = true;
}

-- how many bytes the first list added and the second removed
abbrev pub common_len : State → ℕ
common_len s = min (length s.first_pending) (length s.second_pending)

-- without these bytes
abbrev pub cancel_common : State → State
cancel_common s = record s {
  first_pending = drop (common_len s) s.first_pending;
  second_pending = drop (common_len s) s.second_pending;
}

-- the next edit begins within n bytes, or at their end
abbrev pub reaches : List EditEntry → ℕ → ℕ → Bool
reaches [] from n = false
reaches (e ∷ es) from n = nat_le (e.at - from) n

-- the next edit of a list touches the edit that is being made, through an edit of the other list
abbrev pub joins_first : State → List EditEntry → Bool
joins_first s xs =
    s.has_second
    && ((length s.first_pending == 0) && reaches xs s.first_end (length s.second_pending))

abbrev pub joins_second : State → List EditEntry → Bool
joins_second s ys =
    s.has_first
    && ((length s.second_pending == 0) && reaches ys s.second_end (length s.first_pending))

-- whether the first list has the next edit
abbrev pub first_is_next : State → List EditEntry → List EditEntry → Bool
first_is_next s [] ys = false
first_is_next s (x ∷ xs) [] = true
first_is_next s (x ∷ xs) (y ∷ ys) = nat_le (x.at - s.first_end) (y.at - s.second_end)

-- how many bytes are before the next edit
abbrev pub gap : ℕ → List EditEntry → ℕ
gap from [] = 0
gap from (e ∷ es) = e.at - from

-- if no edit joins, the one that is made ends, and another begins at the next edit
abbrev pub start_edit : State → List EditEntry → List EditEntry → Bool × State
start_edit s xs ys = if first_is_next s xs ys then (true, skip_kept (gap s.first_end xs) s)
    else (false, skip_kept (gap s.second_end ys) s)

-- whether the next edit is of the first list, and the state in which it is taken
abbrev pub prepare_next : State → List EditEntry → List EditEntry → Bool × State
prepare_next s xs ys = if joins_first s xs then (true, s)
    else (if joins_second s ys then (false, s) else start_edit (finish_edit s) xs ys)

-- what holds between two steps, where xs and ys are left of edits of texts of la and lb bytes
pub record MergeInvariant (la lb : ℕ) (s : State) (xs ys : List EditEntry) : Type 0 where
  pub first_fits : la ≤ MAX_TEXT
  pub second_fits : lb ≤ MAX_TEXT
  pub first_placed : AreDisjoint la s.first_end xs
  pub second_placed : AreDisjoint lb s.second_end ys
  pub at_is : s.at + length s.removed ≡ s.first_end
  pub done : AreDisjoint s.at 0 s.out
  pub balance : s.second_end + length s.first_pending + la + added_len xs
      ≡ lb + length s.second_pending + s.first_end + removed_len xs
  pub no_first : s.has_first ≡ false → length s.first_pending ≡ 0
  pub no_second : s.has_second ≡ false → length s.second_pending ≡ 0

-- only one list is ahead
abbrev pub OneIsDone : State → Type 0
OneIsDone s = min (length s.first_pending) (length s.second_pending) ≡ 0

abbrev pub IsReady : State → List EditEntry → List EditEntry → Type 0
IsReady s xs ys = (la : ℕ) × (lb : ℕ) × MergeInvariant la lb s xs ys × OneIsDone s

-- the next edit begins at from or later
abbrev pub StartsFrom : ℕ → List EditEntry → Type 0
StartsFrom from [] = ⊤
StartsFrom from (e ∷ es) = from ≤ e.at

-- the next edit can be taken: its list has nothing left, and the other reaches it
abbrev pub CanTakeFirst : State → List EditEntry → Type 0
CanTakeFirst s [] = ⊥
CanTakeFirst s (e ∷ xs) =
    (length s.first_pending ≡ 0) × (e.at - s.first_end ≤ length s.second_pending)

abbrev pub CanTakeSecond : State → List EditEntry → List EditEntry → Type 0
CanTakeSecond s xs [] = length xs ≡ 0
CanTakeSecond s xs (e ∷ ys) =
    (length s.second_pending ≡ 0) × (e.at - s.second_end ≤ length s.first_pending)

abbrev pub CanTake : Bool → State → List EditEntry → List EditEntry → Type 0
CanTake true s xs ys = CanTakeFirst s xs
CanTake false s xs ys = CanTakeSecond s xs ys

-- the state with the next edit, and the edits that are left
abbrev pub take_next : Bool → State → List EditEntry → List EditEntry → State × List EditEntry
    × List EditEntry
take_next true s [] ys = (s, [], ys)
take_next true s (e ∷ xs) ys = (with_first e s, xs, ys)
take_next false s xs [] = (s, xs, [])
take_next false s xs (e ∷ ys) = (with_second e s, xs, ys)

abbrev pub IsReadyFor : Bool → State → List EditEntry → List EditEntry → Type 0
IsReadyFor first s xs ys = IsReady s xs ys × CanTake first s xs ys

-- no edit is being made and nothing is done
abbrev pub initial : State
initial = record {
  out = [];
  at = 0;
  removed = [];
  added = [];
  first_pending = [];
  second_pending = [];
  first_end = 0;
  second_end = 0;
  has_first = false;
  has_second = false;
}
