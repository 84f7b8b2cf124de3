-- Edits whose places are stored apart from them.
use Rattle.std.specs.Prelude.{◌≡◌, ℕ, List, length, Result, Ok, Err}
use Rattle.edit_record.specs.declared.lists.record.Record.{Record}
use Rattle.edit_record.specs.Lists.Journal.{JournalEntry}
use Rattle.edit_record.specs.Lists.Pieces.{EditEntry, EditList, as_list}
use Rattle.edit_record.specs.Lists.Validity.{AreValidEdits}
use Rattle.edit_record.specs.Swaps.Swap.{SwapTo}
use Rattle.edit_record.specs.Swaps.Inner.SwapState.{State, IsSwapDone}
use Rattle.edit_record.specs.Swaps.Inner.RelativeEnds.{ends_of}
use Rattle.edit_record.specs.Swaps.Inner.EditEnds.{with_ends, ends_at}
use Rattle.edit_record.specs.Swaps.Inner.MovePastResult.{IsMovePastResult}
use Rattle.edit_record.specs.declared.swaps.moving_edits.MovingEdits.{MovingEdits}
use Rattle.edit_record.specs.declared.swaps.reorder.MoveFault.{MoveFault}

-- the edits where they are now
abbrev pub edits_now : MovingEdits → EditList
edits_now m = as_list m.old_len (with_ends m.edits.items (ends_of m.ends.items))

pub record IsWellFormed (m : MovingEdits) : Type 0 where
  pub made : AreValidEdits m.old_len m.new_len (with_ends m.edits.items (ends_of m.ends.items))
  pub ends : ends_of m.ends.items ≡ ends_at 0 0 (with_ends m.edits.items (ends_of m.ends.items))
  pub len : length m.ends.items ≡ length m.edits.items

-- the edits of b are before those of a
pub record HasMovedPast (a b : EditList) (us : List EditEntry) (m n : MovingEdits) : Type 0 where
  pub place : State
  pub exchange : IsSwapDone a b place
  pub us_are : place.us ≡ us
  pub ends : ends_of n.ends.items ≡ ends_at 0 0 place.vs
  pub edits : n.edits.items ≡ m.edits.items
  pub len : length n.ends.items ≡ length m.ends.items
  pub old_len : n.old_len ≡ m.old_len
  pub new_len : n.new_len ≡ m.new_len

-- what moving edits after one record returns; its errors are those of `IsMovePastResult`
abbrev pub MovesPastRecord : EditList → JournalEntry → ℕ → MovingEdits → Result Record MoveFault
    → Type 0
MovesPastRecord a r k n (Ok before) =
    SwapTo a r.edits before.edits (edits_now n) × (before.word ≡ r.word) × IsWellFormed n
MovesPastRecord a r k n (Err fault) = IsMovePastResult a r k (Err fault)
