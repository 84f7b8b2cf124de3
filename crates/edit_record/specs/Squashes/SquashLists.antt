-- Several lists of edits, squashed one after another.
use Rattle.std.specs.Prelude.{◌≡◌, ◌↔◌, ℕ, List, [], ◌∷◌}
use Rattle.edit_record.specs.Lists.Pieces.{EditList, Transforms}
use Rattle.edit_record.specs.Lists.Sequence.{TransformsInOrder}
use Rattle.edit_record.specs.Squashes.Squash.{AreComposable, IsComposition, IsSquash}

-- If the lists of one grouping are composable, those of the other are too, and both groupings turn
-- the same texts.
pub record SquashIsAssociative (a b c : EditList) : Type 0 where
  pub last_composable : (ab : EditList) → IsComposition ab a b → AreComposable ab c
      → AreComposable b c
  pub first_composable : (bc : EditList) → IsComposition bc b c → AreComposable a bc
      → AreComposable a b
  pub both_composable : (ab bc : EditList) → IsComposition ab a b → IsComposition bc b c
      → AreComposable ab c ↔ AreComposable a bc
  pub equivalent : (ab bc left right : EditList) → IsComposition ab a b → IsComposition bc b c
      → IsComposition left ab c → IsComposition right a bc → (t v : List ℕ)
      → Transforms left t v ↔ Transforms right t v

-- a list and those that follow it squash to c: each is squashed with the result of those before it
abbrev pub SquashAll : EditList → List EditList → EditList → Type 0
SquashAll a [] c = a ≡ c
SquashAll a (b ∷ bs) c = (ab : EditList) × IsSquash a b ab × SquashAll ab bs c

-- they squash to one list at most, and it turns a text into another if and only if all in order do
pub record SquashAllIsUnique (a : EditList) (bs : List EditList) : Type 0 where
  pub one : (c d : EditList) → SquashAll a bs c → SquashAll a bs d → c ≡ d
  pub equivalent : (c : EditList) → SquashAll a bs c → (t v : List ℕ)
      → Transforms c t v ↔ TransformsInOrder Transforms (a ∷ bs) t v
