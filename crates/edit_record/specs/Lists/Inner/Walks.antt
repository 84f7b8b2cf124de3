-- Edits as a relation of texts, one edit after another. WalkExact shows that it is the relation by
-- pieces.
use Rattle.std.specs.Prelude.{◌≡◌, ℕ, ◌+◌, List, [], ◌∷◌, ◌++◌, length}
use Rattle.edit_record.specs.Lists.Pieces.{EditEntry}
use Rattle.edit_record.specs.declared.lists.direction.Direction.{Direction}
use Rattle.edit_record.specs.Lists.Apply.{read_bytes, written_bytes}

-- some bytes stay, the edit's bytes become others, and for what is left K holds
pub record EditStep (direction : Direction) (from : ℕ) (e : EditEntry)
    (K : List ℕ → List ℕ → Type 0) (t u : List ℕ) : Type 0 where
  pub kept : List ℕ
  pub t_rest : List ℕ
  pub u_rest : List ℕ
  pub gap : from + length kept ≡ e.at
  pub t_is : t ≡ kept ++ (read_bytes direction e ++ t_rest)
  pub u_is : u ≡ kept ++ (written_bytes direction e ++ u_rest)
  pub rest : K t_rest u_rest

-- both texts follow the edits from offset `from` on, and what remains of them after the last edit
-- satisfies K at its offset in the old text
abbrev pub Walks : Direction → ℕ → List EditEntry → (ℕ → List ℕ → List ℕ → Type 0) → List ℕ → List ℕ
    → Type 0
Walks direction from [] K t u = K from t u
Walks direction from (e ∷ es) K t u =
    EditStep direction from e (Walks direction (e.at + length e.removed) es K) t u

-- after the edits the texts are the same
abbrev pub SameRest : ℕ → List ℕ → List ℕ → Type 0
SameRest from t u = t ≡ u
