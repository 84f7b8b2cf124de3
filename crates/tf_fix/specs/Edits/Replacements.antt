-- What a step of a fix makes of a text: some parts are replaced by others.
use Rattle.std.specs.Prelude.{ℕ, ◌≤◌, List, [], ◌∷◌, ◌++◌, drop, slice_range, None, if◌then◌else◌}
use Rattle.edit_record.specs.Lists.Pieces.{Piece}
use Rattle.edit_record.specs.Lists.Pieces.Piece.{Kept, Changed}
use Rattle.tf_fix.specs.Edits.Parts.{TextPart, text_of_parts}
use Rattle.tf_fix.specs.JoinedTokens.{Prev, one_space}
use Rattle.tf_fix.specs.Edits.SettledSpaces.{prev_of_parts, settled, is_glued}

-- The parts from one place to another are replaced by others.
pub record Replacement : Type 0 where
  pub from : ℕ
  pub to : ℕ
  pub inserted_parts : List TextPart

-- each begins where the one before ends, or later, and all are within `end` parts
abbrev pub AreReplacementsInOrder : ℕ → List Replacement → ℕ → Type 0
AreReplacementsInOrder at [] end = at ≤ end
AreReplacementsInOrder at (r ∷ rs) end =
    (at ≤ r.from) × (r.from ≤ r.to) × AreReplacementsInOrder r.to rs end

-- the parts from a place on, after the replacements
abbrev pub replaced_from : ℕ → List TextPart → List Replacement → List TextPart
replaced_from at parts [] = drop at parts
replaced_from at parts (r ∷ rs) =
    slice_range parts at r.from ++ (r.inserted_parts ++ replaced_from r.to parts rs)

-- the text after the replacements: each two tokens that join have a space between them then
abbrev pub replaced_text : List TextPart → List Replacement → List ℕ
replaced_text parts rs = text_of_parts (settled None (replaced_from 0 parts rs))

-- the parts that stay from a place on, up to the next replacement
abbrev pub stays_until : ℕ → List TextPart → List Replacement → List TextPart
stays_until at parts [] = drop at parts
stays_until at parts (r ∷ rs) = slice_range parts at r.from

-- one space where the neighbour joins with what stays
abbrev pub space_before : Prev → List TextPart → List ℕ
space_before prev parts = if is_glued prev parts then one_space else []

-- what a replacement adds: the inserted parts, settled, and a space if the last token joins with
-- what is kept after them
abbrev pub added : Prev → List TextPart → List TextPart → List ℕ
added prev inserted kept_after =
    text_of_parts (settled prev inserted) ++ space_before (prev_of_parts prev inserted) kept_after

-- The text in pieces: kept, or replaced by what is added. `prev` is the token before place `at`,
-- `before` that before what is inserted, and `after` that before what stays after it.
abbrev pub pieces_from : Prev → ℕ → List TextPart → List Replacement → List Piece
pieces_from prev at parts [] = Kept (text_of_parts (drop at parts)) ∷ []
pieces_from prev at parts (r ∷ rs) =
    let kept = slice_range parts at r.from in
    let before = prev_of_parts prev kept in
    let after = prev_of_parts before r.inserted_parts in
    Kept (text_of_parts kept)
    ∷ Changed (text_of_parts (slice_range parts r.from r.to))
    (added before r.inserted_parts (stays_until r.to parts rs))
    ∷ pieces_from after r.to parts rs

abbrev pub replaced_pieces : List TextPart → List Replacement → List Piece
replaced_pieces parts rs = pieces_from None 0 parts rs
