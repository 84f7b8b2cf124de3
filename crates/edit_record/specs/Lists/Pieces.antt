-- Edits, and which texts they turn into which: a text consists of pieces that are kept and pieces
-- that change.
use Rattle.std.specs.Prelude.{◌≡◌, ℕ, ◌+◌, List, [], ◌∷◌, ◌++◌, length}

-- what clauses see of an edit: at this place of the old text, these bytes become those
pub record EditEntry : Type 0 where
  pub at : ℕ
  pub removed : List ℕ
  pub added : List ℕ

-- the edits of texts of this length
pub record EditList : Type 0 where
  pub old_len : ℕ
  pub entries : List EditEntry

abbrev pub as_list : ℕ → List EditEntry → EditList
as_list old_len es = record { old_len = old_len; entries = es }

-- a part of a text, kept or changed
pub data Piece : Type 0 where
  Kept : (bytes : List ℕ) → Piece
  Changed : (removed added : List ℕ) → Piece

-- the text before the change
abbrev pub old_text : List Piece → List ℕ
old_text [] = []
old_text (Kept b ∷ ps) = b ++ old_text ps
old_text (Changed r n ∷ ps) = r ++ old_text ps

-- the text after it
abbrev pub new_text : List Piece → List ℕ
new_text [] = []
new_text (Kept b ∷ ps) = b ++ new_text ps
new_text (Changed r n ∷ ps) = n ++ new_text ps

-- the pieces that change, each with its offset in the old text; the first piece is at `from`
abbrev pub changed_entries : ℕ → List Piece → List EditEntry
changed_entries from [] = []
changed_entries from (Kept b ∷ ps) = changed_entries (from + length b) ps
changed_entries from (Changed r n ∷ ps) =
    record { at = from; removed = r; added = n } ∷ changed_entries (from + length r) ps

-- The edits turn old into new: of some pieces old is the text before and new the text after, and
-- the edits are the pieces that change.
pub record Transforms (e : EditList) (old new : List ℕ) : Type 0 where
  pub len : length old ≡ e.old_len
  pub pieces : List Piece
  pub old_is : old_text pieces ≡ old
  pub new_is : new_text pieces ≡ new
  pub edits_are : changed_entries 0 pieces ≡ e.entries

-- how many bytes edits remove, and how many they add
abbrev pub removed_len : List EditEntry → ℕ
removed_len [] = 0
removed_len (e ∷ es) = length e.removed + removed_len es

abbrev pub added_len : List EditEntry → ℕ
added_len [] = 0
added_len (e ∷ es) = length e.added + added_len es
