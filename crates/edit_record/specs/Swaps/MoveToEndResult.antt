-- What `move_to_end` returns.
use Rattle.std.specs.Prelude.{◌≡◌, ◌≢◌, ℕ, List, [], ◌∷◌, take, Option, None, Some, Result, Ok, Err}
use Rattle.std.specs.Global.{Vec}
use Rattle.edit_record.specs.declared.lists.record.Record.{Record}
use Rattle.edit_record.specs.declared.lists.edits.Edits.{Edits}
use Rattle.edit_record.specs.Lists.Pieces.{EditList}
use Rattle.edit_record.specs.Lists.Validity.{new_len}
use Rattle.edit_record.specs.Lists.Journal.{JournalEntry, edits_of, words_of}
use Rattle.edit_record.specs.Swaps.Swap.{IsItem, FirstMeeting, NoneMeet, ExceedsLimit, IsWithinLimit}
use Rattle.edit_record.specs.Swaps.MoveToEnd.{IsMovedToEnd}
use Rattle.edit_record.specs.declared.swaps.reorder.MoveFault.{MoveFault}
use Rattle.edit_record.specs.declared.swaps.reorder.MoveFault.TheVariants.{Length, Blocked, TooLong, Memory}

-- the moved list, or the list itself if no record follows it
abbrev pub moved_or : EditList → Option EditList → EditList
moved_or a None = a
moved_or a (Some m) = m

-- why two lists cannot be swapped: the second is for texts of another length, edits meet, or a text
-- would be too long
abbrev pub LengthMismatch : EditList → EditList → ℕ → ℕ → Type 0
LengthMismatch a b expected found =
    (new_len a ≢ b.old_len) × (expected ≡ b.old_len) × (found ≡ new_len a)

abbrev pub SomeMeet : EditList → EditList → Type 0
SomeMeet a b = (new_len a ≡ b.old_len) × (i : ℕ) × (j : ℕ) × FirstMeeting a b i j

abbrev pub SwapIsTooLong : EditList → EditList → Type 0
SwapIsTooLong a b = (new_len a ≡ b.old_len) × NoneMeet a b × ExceedsLimit a b

-- moved after the first k lists, a is a list that cannot be swapped with the next one
pub record FailsAt (a : EditList) (bs : List EditList) (k : ℕ)
    (Refuses : EditList → EditList → Type 0) : Type 0 where
  pub swapped_lists : List EditList
  pub moved_edits : EditList
  pub next : EditList
  pub is_moved : IsMovedToEnd a (take k bs) swapped_lists moved_edits
  pub next_is : IsItem k next bs
  pub refuses : Refuses moved_edits next

-- two lists can be swapped
abbrev pub CanSwap : EditList → EditList → Type 0
CanSwap a b = (new_len a ≡ b.old_len) × NoneMeet a b × IsWithinLimit a b

-- `move_to_end` allocates nothing if there is no record, or the first one cannot be swapped
abbrev pub MoveMayAllocate : EditList → List JournalEntry → Type 0
MoveMayAllocate a [] = ⊥
MoveMayAllocate a (r ∷ rs) = CanSwap a r.edits

-- What `move_to_end` returns: the records as they are without a before them, with their commands,
-- and a as it is after them all; or the first record that cannot be swapped, and why.
abbrev pub IsMoveToEndResult : EditList → List JournalEntry
    → Result (Vec Record × Option Edits) MoveFault
    → Type 0
IsMoveToEndResult a rs (Ok x) =
    IsMovedToEnd a (edits_of rs) (edits_of x.0.items) (moved_or a x.1)
    × (words_of x.0.items ≡ words_of rs)
IsMoveToEndResult a rs (Err (Length expected found)) =
    (k : ℕ) × FailsAt a (edits_of rs) k (λ n b. LengthMismatch n b expected found)
IsMoveToEndResult a rs (Err (Blocked k)) = FailsAt a (edits_of rs) k SomeMeet
IsMoveToEndResult a rs (Err TooLong) = (k : ℕ) × FailsAt a (edits_of rs) k SwapIsTooLong
IsMoveToEndResult a rs (Err Memory) = MoveMayAllocate a rs
