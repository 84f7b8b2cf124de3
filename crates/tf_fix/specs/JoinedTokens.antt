-- Tokens that join with the one directly before them.
use Rattle.std.specs.Prelude.{ℕ, Bool, false, List, [], ◌∷◌, Option, Some, None}
use Rattle.hcl_token.specs.declared.kind.Kind.{Kind}
use Rattle.hcl_token.specs.Joins.{joins_with}

-- The token directly before, with nothing between; none at the start of a text and after
-- whitespace.
abbrev pub Prev : Type 0
Prev = Option (Kind × List ℕ)

-- the token before joins with this one
abbrev pub joins_prev : Prev → Kind → List ℕ → Bool
joins_prev None kind spelling = false
joins_prev (Some (first, letters)) kind spelling = joins_with first letters kind spelling

-- one space
abbrev pub one_space : List ℕ
one_space = 32 ∷ []
