-- Sums over edits that are read one after another.
use Rattle.std.specs.Prelude.{◌≡◌, ℕ, ◌^◌, ◌+◌, ◌-◌, ◌<◌, ◌≤◌, List, min}
use Rattle.edit_record.specs.Lists.Pieces.{EditEntry, removed_len, added_len}
use Rattle.edit_record.specs.Lists.Validity.{AreDisjoint}
use Rattle.edit_record.specs.declared.lists.edits.TheConstants.{MAX_TEXT}
use Rattle.edit_record.specs.declared.edit_sums.EditSums.{EditSums}

-- the edits are in order and disjoint, the last ends at `end`, and these are the sums of their
-- lengths
pub record HaveSums (es : List EditEntry) (s : EditSums) : Type 0 where
  pub disjoint : AreDisjoint s.end 0 es
  pub removed : s.removed ≡ removed_len es
  pub added : s.added ≡ min (added_len es) (2 ^ 64 - 1)

-- these are the sums of the edits, or `end` is the greatest number: the edits are not valid then
abbrev pub AreSummedUp : List EditEntry → EditSums → Type 0
AreSummedUp es s = s.end < 2 ^ 64 - 1 → HaveSums es s

-- an edit at this place, which removes and adds these numbers of bytes, is not empty, and does not
-- begin before the end of edits with these sums; what these add is within the limit
pub record Follows (s : EditSums) (at removes adds : ℕ) : Type 0 where
  pub later : s.end ≤ at
  pub few : s.added ≤ MAX_TEXT
  pub some : 0 < removes + adds
