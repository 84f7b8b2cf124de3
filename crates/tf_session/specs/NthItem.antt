-- One member of a list by its number, the first being 1.
use Rattle.std.specs.Prelude.{◌≡◌, ℕ, ◌+◌, List, ◌∷◌, ◌++◌, length}

-- the member of this number, with those before it and those after it
pub record Nth {X : Type 0} (n : ℕ) (xs : List X) : Type 0 where
  pub before : List X
  pub item : X
  pub after : List X
  pub all : xs ≡ before ++ item ∷ after
  pub number : n ≡ length before + 1
