-- The changed pieces of a text as edits, for whoever makes edits piece by piece.
use Rattle.std.specs.Prelude.{◌≡◌, ◌+◌, ◌<◌, List, [], ◌∷◌, length, ⊤, Ok, Err, nat_lt, if◌then◌else◌}
use Rattle.edit_record.specs.declared.lists.edit.BadEdits.TheVariants.{TooLong}
use Rattle.edit_record.specs.declared.lists.edits.TheConstants.{MAX_TEXT}
use Rattle.edit_record.specs.Lists.Pieces.{Piece, Transforms, as_list, old_text, new_text, changed_entries}
use Rattle.edit_record.specs.Lists.Pieces.Piece.{Kept, Changed}
use Rattle.edit_record.specs.Lists.Validity.{make_edits}

-- no piece changes nothing into nothing
abbrev pub ChangesAreNonempty : List Piece → Type 0
ChangesAreNonempty [] = ⊤
ChangesAreNonempty (Kept b ∷ ps) = ChangesAreNonempty ps
ChangesAreNonempty (Changed r n ∷ ps) = (0 < length r + length n) × ChangesAreNonempty ps

-- the changed pieces turn the old text into the new one
abbrev pub PiecesTransform : List Piece → Type 0
PiecesTransform ps =
    Transforms (as_list (length (old_text ps)) (changed_entries 0 ps)) (old_text ps) (new_text ps)

-- made into a list of edits, the changed pieces are just that list, unless the new text is too long
abbrev pub PiecesMakeValidEdits : List Piece → Type 0
PiecesMakeValidEdits ps =
    make_edits (length (old_text ps)) (changed_entries 0 ps)
    ≡ (if nat_lt MAX_TEXT (length (new_text ps)) then Err TooLong
    else Ok (as_list (length (old_text ps)) (changed_entries 0 ps)))
