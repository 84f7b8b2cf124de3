-- What moving edits after one record returns.
use Rattle.std.specs.Prelude.{◌≡◌, ℕ, Result, Ok, Err}
use Rattle.edit_record.specs.declared.lists.record.Record.{Record}
use Rattle.edit_record.specs.declared.lists.edits.Edits.{Edits}
use Rattle.edit_record.specs.Lists.Pieces.{EditList}
use Rattle.edit_record.specs.Lists.Journal.{JournalEntry}
use Rattle.edit_record.specs.Swaps.Swap.{SwapTo}
use Rattle.edit_record.specs.Swaps.MoveToEndResult.{LengthMismatch, SomeMeet, SwapIsTooLong, CanSwap}
use Rattle.edit_record.specs.declared.swaps.reorder.MoveFault.{MoveFault}
use Rattle.edit_record.specs.declared.swaps.reorder.MoveFault.TheVariants.{Length, Blocked, TooLong, Memory}

abbrev pub IsMovePastResult : EditList → JournalEntry → ℕ → Result (Record × Edits) MoveFault
    → Type 0
IsMovePastResult a r k (Ok x) = SwapTo a r.edits x.0.edits x.1 × (x.0.word ≡ r.word)
IsMovePastResult a r k (Err (Length expected found)) = LengthMismatch a r.edits expected found
IsMovePastResult a r k (Err (Blocked n)) = (n ≡ k) × SomeMeet a r.edits
IsMovePastResult a r k (Err TooLong) = SwapIsTooLong a r.edits
IsMovePastResult a r k (Err Memory) = CanSwap a r.edits
