-- Edits by where they end.
use Rattle.std.specs.Prelude.{ℕ, ◌+◌, ◌-◌, ◌≤◌, List, [], ◌∷◌, length}
use Rattle.edit_record.specs.Lists.Pieces.{EditEntry}
use Rattle.edit_record.specs.declared.swaps.relative_ends.EndOffset.{EndOffset}

-- the edits with these ends
abbrev pub with_ends : List EditEntry → List EndOffset → List EditEntry
with_ends [] es = []
with_ends (x ∷ xs) [] = []
with_ends (x ∷ xs) (e ∷ es) =
    record { at = e.old - length x.removed; removed = x.removed; added = x.added } ∷ with_ends xs es

-- where edits end, after others that add `added` bytes and remove `removed`
abbrev pub ends_at : ℕ → ℕ → List EditEntry → List EndOffset
ends_at added removed [] = []
ends_at added removed (x ∷ xs) =
    record { old = x.at + length x.removed; new = (x.at + added + length x.added) - removed }
    ∷ ends_at (added + length x.added) (removed + length x.removed) xs

-- each ends after as many bytes as it removes
abbrev pub FitRemoved : List EditEntry → List EndOffset → Type 0
FitRemoved [] es = Unit {0}
FitRemoved (x ∷ xs) [] = Unit {0}
FitRemoved (x ∷ xs) (e ∷ es) = (length x.removed ≤ e.old) × FitRemoved xs es
