-- The composition of two lists of edits: one list that does what the first and then the second do.
use Rattle.std.specs.Prelude.{◌≡◌, ◌≢◌, ◌↔◌, ℕ, ◌+◌, ◌<◌, List, length, map, take, Result, Ok, Err}
use Rattle.edit_record.specs.Lists.Pieces.{EditList, Transforms}
use Rattle.edit_record.specs.Lists.Validity.{IsValidList, new_len}
use Rattle.edit_record.specs.Squashes.Groups.{extent_of, squashed_extents}
use Rattle.edit_record.specs.declared.squashes.squash_lists.Unmet.{Unmet}
use Rattle.edit_record.specs.declared.squashes.squash_lists.Unmet.TheVariants.{LengthsDiffer, Contradicts}
use Rattle.edit_record.specs.declared.squashes.squash_lists.Unmet.TheVariants.{Memory}

-- the first list turns some text into one that the second turns
abbrev pub AreComposable : EditList → EditList → Type 0
AreComposable a b = (t : List ℕ) × (u : List ℕ) × (v : List ℕ) × Transforms a t u × Transforms b u v

-- c turns a text into another if and only if a and then b do
abbrev pub IsComposition : EditList → EditList → EditList → Type 0
IsComposition c a b =
    (t v : List ℕ) → Transforms c t v ↔ ((u : List ℕ) × Transforms a t u × Transforms b u v)

-- the first edits of a list
abbrev pub take_edits : ℕ → EditList → EditList
take_edits k b = record { old_len = b.old_len; entries = take k b.entries }

-- The edits of b before this one can follow a, and with this one they cannot: it is the lowest that
-- contradicts a.
pub record IsContradiction (a b : EditList) (edit : ℕ) : Type 0 where
  pub in_range : edit < length b.entries
  pub before : AreComposable a (take_edits edit b)
  pub with_it : ¬ (AreComposable a (take_edits (edit + 1) b))
  pub none : ¬ (AreComposable a b)

-- c is the squash of a and b
pub record IsSquash (a b c : EditList) : Type 0 where
  pub lengths_match : new_len a ≡ b.old_len
  pub old_len_is : c.old_len ≡ a.old_len
  pub composable : AreComposable a b
  pub equivalent : IsComposition c a b
  pub shape : map extent_of c.entries ≡ squashed_extents a.entries b.entries

-- any two valid lists that are composable squash to a valid list
abbrev pub ComposableListsSquash : Type 0
ComposableListsSquash = (a b : EditList) → IsValidList a → IsValidList b → AreComposable a b
    → (c : EditList) × IsValidList c × IsSquash a b c

-- the lengths match, and there is an edit: `squash` allocates for no other two lists
pub record SquashMayAllocate (a b : EditList) : Type 0 where
  pub lengths_match : new_len a ≡ b.old_len
  pub some : 0 < length a.entries + length b.entries

-- what `squash` returns
abbrev pub IsSquashResult : EditList → EditList → Result EditList Unmet → Type 0
IsSquashResult a b (Ok c) = IsSquash a b c
IsSquashResult a b (Err LengthsDiffer) = new_len a ≢ b.old_len
IsSquashResult a b (Err (Contradicts edit)) = (new_len a ≡ b.old_len) × IsContradiction a b edit
IsSquashResult a b (Err Memory) = SquashMayAllocate a b
