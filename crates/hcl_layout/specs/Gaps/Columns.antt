-- What alignment means: in consecutive lines the cells begin in one column.
-- Terraform style conventions (aligned equals signs on consecutive lines).
use Rattle.std.specs.Prelude.{◌≡◌, ℕ, zero, suc, ◌+◌, List, [], ◌∷◌, length, Option, Some, option_map, ⊤}
use Rattle.hcl_token.specs.declared.kind.Kind.TheVariants.{LineEnd, LineComment}
use Rattle.hcl_token.specs.Tokens.{Pair}
use Rattle.hcl_token.specs.Place.{clusters}
use Rattle.hcl_layout.specs.Gaps.Lines.{Line}

-- how many columns are before the token after n others, its own gap included
abbrev pub column_at : ℕ → List Pair → ℕ
column_at n [] = 0
column_at zero (p ∷ ps) = length p.gap
column_at (suc n) (p ∷ ps) = length p.gap + clusters p.spelling + column_at n ps

-- where a line's cell begins, if it has one
abbrev pub column : (Line → Option ℕ) → Line → Option ℕ
column cell line = option_map (λ n. column_at n line.pairs) (cell line)

-- if there are two columns, they are one
abbrev pub SameColumn : Option ℕ → Option ℕ → Type 0
SameColumn (Some c) (Some d) = c ≡ d
SameColumn c d = ⊤

-- if a line and the next both have the cell, the cells begin in one column
abbrev pub AreAligned : (Line → Option ℕ) → List Line → Type 0
AreAligned cell [] = ⊤
AreAligned cell (x ∷ []) = ⊤
AreAligned cell (x ∷ y ∷ lines) =
    SameColumn (column cell x) (column cell y) × AreAligned cell (y ∷ lines)

-- a line end is next, or nothing
abbrev pub IsAtLineEnd : List Pair → Type 0
IsAtLineEnd [] = ⊤
IsAtLineEnd (p ∷ ps) = p.kind ≡ LineEnd

-- a line comment continues to the end of its line: a line end follows each, or nothing
abbrev pub CommentsEndLines : List Pair → Type 0
CommentsEndLines [] = ⊤
CommentsEndLines (p ∷ ps) = (p.kind ≡ LineComment → IsAtLineEnd ps) × CommentsEndLines ps
