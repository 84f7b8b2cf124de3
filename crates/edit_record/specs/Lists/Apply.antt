-- Applying and undoing edits as a function of the text: one walk over the text and the edits.
-- `IsChangeResult` says by pieces what it returns (law `edit_results_are_exact`).
use Rattle.std.specs.Prelude.{ℕ, ◌+◌, ◌-◌, List, [], ◌∷◌, ◌++◌, length, take, drop, Bool, Result, Ok, Err}
use Rattle.std.specs.Prelude.{nat_le, ◌==◌, ◌&&◌, if◌then◌else◌}
use Rattle.std.specs.Str.{bytes_eq}
use Rattle.edit_record.specs.declared.lists.change.Refused.{Refused}
use Rattle.edit_record.specs.declared.lists.change.Refused.TheVariants.{Length, Differs}
use Rattle.edit_record.specs.declared.lists.direction.Direction.{Direction}
use Rattle.edit_record.specs.declared.lists.direction.Direction.TheVariants.{Forward, Backward}
use Rattle.edit_record.specs.Lists.Pieces.{EditEntry, EditList, removed_len, added_len}
use Rattle.edit_record.specs.Lists.Validity.{new_len}

-- the bytes of an edit on the side that is read, and on the other
abbrev pub read_bytes : Direction → EditEntry → List ℕ
read_bytes Forward e = e.removed
read_bytes Backward e = e.added

abbrev pub written_bytes : Direction → EditEntry → List ℕ
written_bytes Forward e = e.added
written_bytes Backward e = e.removed

-- the result with these bytes before it
abbrev pub prepend : List ℕ → Result (List ℕ) Refused → Result (List ℕ) Refused
prepend bytes (Ok rest) = Ok (bytes ++ rest)
prepend bytes (Err r) = Err r

-- the text has the gap, and then these bytes
abbrev pub matches_at : ℕ → ℕ → List ℕ → List ℕ → Bool
matches_at from at bytes t =
    nat_le from at && (nat_le (at - from) (length t)
    && bytes_eq bytes (take (length bytes) (drop (at - from) t)))

-- The other text for t, whose first byte is at offset `from` of the old text; or the first edit
-- whose bytes t does not have. The first edit of the list has the number i.
abbrev pub walk : Direction → ℕ → ℕ → List EditEntry → List ℕ → Result (List ℕ) Refused
walk direction i from [] t = Ok t
walk direction i from (e ∷ es) t =
    if matches_at from e.at (read_bytes direction e) t
    then prepend (take (e.at - from) t ++ written_bytes direction e)
    (walk direction (i + 1) (e.at + length e.removed) es
    (drop (length (read_bytes direction e)) (drop (e.at - from) t)))
    else Err (Differs 0 i)

-- the new text of an old one, or, backward, the old text of a new one
abbrev pub apply_edits : Direction → EditList → List ℕ → Result (List ℕ) Refused
apply_edits Forward e t =
    if length t == e.old_len then walk Forward 0 0 e.entries t
    else Err (Length e.old_len (length t))
apply_edits Backward e u =
    if (length u + removed_len e.entries) == (e.old_len + added_len e.entries)
    then walk Backward 0 0 e.entries u
    else Err (Length (new_len e) (length u))
