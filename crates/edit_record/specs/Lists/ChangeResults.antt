-- What applying and undoing edits returns for a text, in terms of pieces.
use Rattle.std.specs.Prelude.{◌≡◌, ℕ, ◌+◌, ◌<◌, List, ◌++◌, length, take, ⊤, Result, Ok, Err, codes}
use Rattle.std.specs.Fmt.{decimal}
use Rattle.std.specs.Global.{Vec}
use Rattle.edit_record.specs.declared.lists.change.Refused.{Refused}
use Rattle.edit_record.specs.declared.lists.change.Refused.TheVariants.{Length, Differs, Memory}
use Rattle.edit_record.specs.declared.lists.direction.Direction.{Direction}
use Rattle.edit_record.specs.declared.lists.direction.Direction.TheVariants.{Forward, Backward}
use Rattle.edit_record.specs.Lists.Pieces.{EditEntry, EditList, Piece, old_text, new_text, changed_entries}
use Rattle.edit_record.specs.Lists.Pieces.{Transforms, removed_len, added_len}
use Rattle.edit_record.specs.Lists.Validity.{new_len}

-- the side of pieces that is read
abbrev pub side_of : Direction → List Piece → List ℕ
side_of Forward = old_text
side_of Backward = new_text

-- The edits apply to a text: it is the side that is read of some pieces, and the edits are the
-- pieces that change.
pub record AppliesTo (direction : Direction) (es : List EditEntry) (text : List ℕ) : Type 0 where
  pub pieces : List Piece
  pub side_is : side_of direction pieces ≡ text
  pub edits_are : changed_entries 0 pieces ≡ es

-- this is the first edit that does not match: the edits before it apply to the text, and together
-- with it they do not
pub record IsFirstMismatch (direction : Direction) (es : List EditEntry) (text : List ℕ)
    (edit : ℕ) : Type 0 where
  pub in_range : edit < length es
  pub before : AppliesTo direction (take edit es) text
  pub with_it : ¬ (AppliesTo direction (take (edit + 1) es) text)

-- the length that a text must have, and that it has it; the second is said by a sum, as edits could
-- remove more than there is
abbrev pub expected_len : Direction → EditList → ℕ
expected_len Forward e = e.old_len
expected_len Backward e = new_len e

abbrev pub HasExpectedLen : Direction → EditList → List ℕ → Type 0
HasExpectedLen Forward e t = length t ≡ e.old_len
HasExpectedLen Backward e u = length u + removed_len e.entries ≡ e.old_len + added_len e.entries

-- the text on the other side; else that the length differs; else the first edit that does not match
abbrev pub IsChangeResult : Direction → EditList → List ℕ → Result (List ℕ) Refused → Type 0
IsChangeResult Forward e t (Ok u) = Transforms e t u
IsChangeResult Backward e u (Ok t) = Transforms e t u
IsChangeResult direction e t (Err (Length expected found)) =
    (expected ≡ expected_len direction e) × (found ≡ length t) × ¬ (HasExpectedLen direction e t)
IsChangeResult direction e t (Err (Differs step edit)) =
    (step ≡ 0) × HasExpectedLen direction e t × IsFirstMismatch direction e.entries t edit
IsChangeResult direction e t (Err Memory) = ⊥

-- What a call on edits returned: the text on the other side, or why there is none; or memory ran
-- out, which can only be for a text of the expected length.
abbrev pub IsChangeCallResult : Direction → EditList → List ℕ → Result (Vec ℕ) Refused → Type 0
IsChangeCallResult direction e t (Ok v) = IsChangeResult direction e t (Ok v.items)
IsChangeCallResult direction e t (Err (Length expected found)) =
    IsChangeResult direction e t (Err (Length expected found))
IsChangeCallResult direction e t (Err (Differs step edit)) =
    IsChangeResult direction e t (Err (Differs step edit))
IsChangeCallResult direction e t (Err Memory) = HasExpectedLen direction e t

-- A text has one result: two statements of what applying or undoing edits returns agree. So where
-- undoing is refused, no text becomes this one.
abbrev pub ChangeResultIsUnique : Type 0
ChangeResultIsUnique =
    (direction : Direction) (e : EditList) (t : List ℕ) (r s : Result (List ℕ) Refused)
    → IsChangeResult direction e t r → IsChangeResult direction e t s → r ≡ s

-- a call returned this, unless memory ran out
abbrev pub AgreesWith : Result (Vec ℕ) Refused → Result (List ℕ) Refused → Type 0
AgreesWith (Ok v) answer = answer ≡ Ok v.items
AgreesWith (Err Memory) answer = ⊤
AgreesWith (Err (Length m n)) answer = answer ≡ Err (Length m n)
AgreesWith (Err (Differs m n)) answer = answer ≡ Err (Differs m n)

-- what is written of a refusal
abbrev pub refused_message : Refused → List ℕ
refused_message (Length expected found) =
    codes "record expects " ++ (decimal expected ++ (codes " bytes, found " ++ decimal found))
refused_message (Differs step edit) =
    codes "record does not stand, step " ++ (decimal step ++ (codes " edit " ++ decimal edit))
refused_message Memory = codes "out of memory"
