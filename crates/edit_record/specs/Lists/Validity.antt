-- Which edits are a list of edits of a text, and what is wrong with others.
use Rattle.std.specs.Prelude.{◌≡◌, ℕ, ◌+◌, ◌-◌, ◌≤◌, ◌<◌, List, [], ◌∷◌, length, Option, Some, None, Result}
use Rattle.std.specs.Prelude.{Ok, Err, nat_lt, ◌↔◌, ◌==◌, ◌&&◌, if◌then◌else◌}
use Rattle.edit_record.specs.declared.lists.edit.BadEdits.{BadEdits}
use Rattle.edit_record.specs.declared.lists.edit.BadEdits.TheVariants.{EmptyEdit, OutOfOrder, PastEnd}
use Rattle.edit_record.specs.declared.lists.edit.BadEdits.TheVariants.{TooLong}
use Rattle.edit_record.specs.declared.lists.edits.TheConstants.{MAX_TEXT}
use Rattle.edit_record.specs.Lists.Pieces.{as_list, EditEntry, EditList, Transforms, removed_len, added_len}

-- the length of the texts that edits make
abbrev pub new_len : EditList → ℕ
new_len e = (e.old_len + added_len e.entries) - removed_len e.entries

-- what is wrong with the edit of this number, if the one before it ends at `from`
abbrev pub edit_fault : ℕ → ℕ → ℕ → EditEntry → Option BadEdits
edit_fault old_len from i e =
    if (length e.removed == 0) && (length e.added == 0) then Some (EmptyEdit i)
    else (if nat_lt e.at from then Some (OutOfOrder i)
    else (if nat_lt old_len (e.at + length e.removed) then Some (PastEnd i)
    else None))

-- the first error of edits, of which the first has the number i
abbrev pub first_fault : ℕ → ℕ → ℕ → List EditEntry → Option BadEdits
first_fault old_len from i [] = None
first_fault old_len from i (e ∷ es) =
    elim (edit_fault old_len from i e) [
      | Some f ↦ Some f
      | None ↦ first_fault old_len
          (e.at + length e.removed) (i + 1) es
    ]

-- the edits as a list for texts of this length, or what is wrong with them: the old length, then
-- the edits, then the new length
abbrev pub make_edits : ℕ → List EditEntry → Result EditList BadEdits
make_edits old_len es =
    if nat_lt MAX_TEXT old_len then Err TooLong
    else (elim (first_fault old_len 0 0 es) [
      | Some f ↦ Err f
      | None ↦ if nat_lt (MAX_TEXT + removed_len es) (old_len + added_len es) then Err TooLong
          else Ok (record { old_len = old_len; entries = es })
    ])

-- the edit begins at from or later, ends by the text's end, and is not empty
pub record IsValidAfter (old_len from : ℕ) (e : EditEntry) : Type 0 where
  pub later : from ≤ e.at
  pub within : e.at + length e.removed ≤ old_len
  pub some : 0 < length e.removed + length e.added

-- each edit follows the one before
abbrev pub AreDisjoint : ℕ → ℕ → List EditEntry → Type 0
AreDisjoint old_len from [] = from ≤ old_len
AreDisjoint old_len from (e ∷ es) =
    IsValidAfter old_len from e × AreDisjoint old_len (e.at + length e.removed) es

-- what is true of each list that was made
pub record AreValidEdits (old_len new_len : ℕ) (es : List EditEntry) : Type 0 where
  pub disjoint : AreDisjoint old_len 0 es
  pub new : new_len + removed_len es ≡ old_len + added_len es
  pub old_fits : old_len ≤ MAX_TEXT
  pub new_fits : new_len ≤ MAX_TEXT

-- these are a list of edits: they are in order and disjoint, and both lengths are within the limit
abbrev pub IsValidList : EditList → Type 0
IsValidList e = AreValidEdits e.old_len (new_len e) e.entries

-- edits are made into the list of just these edits if and only if they are valid
abbrev pub MakeIsExact : ℕ → List EditEntry → Type 0
MakeIsExact old_len es = (e : EditList)
    → (make_edits old_len es ≡ Ok e)
    ↔ ((e ≡ as_list old_len es) × AreValidEdits old_len (new_len e) es)

-- the lengths that the texts on both sides of edits have
abbrev pub LengthsMatch : EditList → List ℕ → List ℕ → Type 0
LengthsMatch e old new = (length old ≡ e.old_len) × (length new ≡ new_len e)

-- a text that some edits turn has one new text
abbrev pub ApplyIsDeterministic : Type 0
ApplyIsDeterministic = (e : EditList) (t u v : List ℕ) → Transforms e t u → Transforms e t v → u ≡ v
