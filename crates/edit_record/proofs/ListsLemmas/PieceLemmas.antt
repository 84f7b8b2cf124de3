-- The changed pieces of a text are a list of edits, unless the new text is too long. Crates that make edits piece by
-- piece may cite this file; the clauses of `laws` say the same.
use Rattle.std.proofs.Common.{◌≡◌, ℕ, ◌+◌, ◌≤◌, ◌<◌, ◌==◌, ◌&&◌, false, List, [], ◌∷◌, length, None, refl, arith, length-append, nat_lt, rules}
use Rattle.edit_record.specs.Lists.Pieces.{EditEntry, Piece, old_text, new_text, changed_entries, removed_len, added_len}
use Rattle.edit_record.specs.Lists.Pieces.Piece.{Kept, Changed}
use Rattle.edit_record.specs.Lists.Validity.{first_fault, edit_fault}
use Rattle.edit_record.specs.Lists.PieceEdits.{ChangesAreNonempty, PiecesTransform, PiecesMakeValidEdits}
use Rattle.edit_record.specs.Lists.Inner.WalkExact.{walks_from_pieces, lengths}
use Rattle.edit_record.specs.declared.lists.edits.TheConstants.{MAX_TEXT}

not_empty : (k l : ℕ) → 0 < k + l → ((k == 0) && (l == 0)) ≡ false
not_empty k l some = grind (arith, some)

same_tests : (old new added removed : ℕ) → new + removed ≡ old + added → nat_lt (MAX_TEXT + removed) (old + added) ≡ nat_lt MAX_TEXT new
same_tests old new added removed e = grind (arith, e)

pub right_fault : (old_len end i : ℕ) (e : EditEntry) → end ≤ e.at → e.at + length e.removed ≤ old_len → 0 < length e.removed + length e.added
    → edit_fault old_len end i e ≡ None
right_fault old_len end i e later within some =
    let filled = not_empty (length e.removed) (length e.added) some in
    let not_before : nat_lt e.at end ≡ false = search (rules, later) in
    let not_past : nat_lt old_len (e.at + length e.removed) ≡ false = search (rules, within) in
    rw (filled, not_before, not_past) refl

pub no_fault : (ps : List Piece) (old_len end from i : ℕ) → ChangesAreNonempty ps → end ≤ from → from + length (old_text ps) ≡ old_len
    → first_fault old_len end i (changed_entries from ps) ≡ None
no_fault [] old_len end from i are later within = refl
no_fault (Kept b ∷ ps) old_len end from i are later within =
    let both = length-append b (old_text ps) in
    no_fault ps old_len end (from + length b) i are (omega (arith, later)) (omega (arith, within, both))
no_fault (Changed r n ∷ ps) old_len end from i are later within =
    let both = length-append r (old_text ps) in
    let here : edit_fault old_len end i (record { at = from; removed = r; added = n }) ≡ None =
    right_fault old_len end i (record { at = from; removed = r; added = n }) later (omega (arith, within, both)) are.0 in
    rw (first_fault, here) (no_fault ps old_len (from + length r) (from + length r) (i + 1) are.1 (omega arith) (omega (arith, within, both)))

-- the new text has the length that follows from the edits
pub piece_lengths : (ps : List Piece)
    → length (new_text ps) + removed_len (changed_entries 0 ps) ≡ length (old_text ps) + added_len (changed_entries 0 ps)
piece_lengths ps = lengths 0 (changed_entries 0 ps) (old_text ps) (new_text ps) (walks_from_pieces 0 ps)

pub pieces_make : (ps : List Piece) → ChangesAreNonempty ps → length (old_text ps) ≤ MAX_TEXT → PiecesMakeValidEdits ps
pieces_make ps are short =
    let fits : nat_lt MAX_TEXT (length (old_text ps)) ≡ false = search (rules, short) in
    let right = no_fault ps (length (old_text ps)) 0 0 0 are (omega arith) (omega arith) in
    let sums = piece_lengths ps in
    let same : nat_lt (MAX_TEXT + removed_len (changed_entries 0 ps)) (length (old_text ps) + added_len (changed_entries 0 ps)) ≡ nat_lt MAX_TEXT (length (new_text ps)) = same_tests _ _ _ _ sums in
    rw (fits, right, same) refl

pub pieces_all_transform : (ps : List Piece) → PiecesTransform ps
pieces_all_transform ps = record { len = refl; pieces = ps; old_is = refl; new_is = refl; edits_are = refl }
