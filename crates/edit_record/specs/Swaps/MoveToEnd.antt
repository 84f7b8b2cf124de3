-- One list of edits moved to the end of the lists that follow it.
use Rattle.std.specs.Prelude.{◌≡◌, ◌↔◌, ℕ, List, [], ◌∷◌}
use Rattle.edit_record.specs.Lists.Pieces.{EditList, Transforms}
use Rattle.edit_record.specs.Lists.Sequence.{TransformsInOrder}
use Rattle.edit_record.specs.Swaps.Swap.{SwapTo}

-- a is swapped with each list that follows it in turn: these become cs, and a, after them all,
-- becomes `last`
abbrev pub IsMovedToEnd : EditList → List EditList → List EditList → EditList → Type 0
IsMovedToEnd a [] [] last = a ≡ last
IsMovedToEnd a [] (c ∷ cs) last = ⊥
IsMovedToEnd a (b ∷ bs) [] last = ⊥
IsMovedToEnd a (b ∷ bs) (c ∷ cs) last =
    (next : EditList) × SwapTo a b c next × IsMovedToEnd next bs cs last

-- there are such lists in one way at most, and they and then `last` turn the same texts as a and
-- then the others
pub record MovesToEndUniquely (a : EditList) (bs : List EditList) : Type 0 where
  pub one : (cs ds : List EditList) (last other : EditList) → IsMovedToEnd a bs cs last
      → IsMovedToEnd a bs ds other → (cs ≡ ds) × (last ≡ other)
  pub equivalent : (cs : List EditList) (last : EditList) → IsMovedToEnd a bs cs last
      → (t v : List ℕ)
      → ((u : List ℕ) × Transforms a t u × TransformsInOrder Transforms bs u v)
      ↔ ((w : List ℕ) × TransformsInOrder Transforms cs t w × Transforms last w v)

-- this holds of every list, and of any that follow it
abbrev pub MoveToEndIsUnique : Type 0
MoveToEndIsUnique = (a : EditList) (bs : List EditList) → MovesToEndUniquely a bs
