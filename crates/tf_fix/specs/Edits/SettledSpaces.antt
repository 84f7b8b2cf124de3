-- Spaces between tokens that join, in the parts of a text.
use Rattle.std.specs.Prelude.{Bool, false, List, [], ◌∷◌, Some, None, if◌then◌else◌}
use Rattle.tf_fix.specs.JoinedTokens.{Prev, joins_prev, one_space}
use Rattle.tf_fix.specs.Edits.Parts.{TextPart}
use Rattle.tf_fix.specs.Edits.Parts.TextPart.{Gap, Token}

-- the token directly before what follows these parts, if this one is before them
abbrev pub prev_of_parts : Prev → List TextPart → Prev
prev_of_parts prev [] = prev
prev_of_parts prev (Gap [] ∷ parts) = prev_of_parts prev parts
prev_of_parts prev (Gap (b ∷ bytes) ∷ parts) = prev_of_parts None parts
prev_of_parts prev (Token kind spelling ∷ parts) = prev_of_parts (Some (kind, spelling)) parts

-- one space more between each two tokens that join and have nothing between them
abbrev pub settled : Prev → List TextPart → List TextPart
settled prev [] = []
settled prev (Gap [] ∷ parts) = Gap [] ∷ settled prev parts
settled prev (Gap (b ∷ bytes) ∷ parts) = Gap (b ∷ bytes) ∷ settled None parts
settled prev (Token kind spelling ∷ parts) =
    if joins_prev prev kind spelling
    then Gap one_space ∷ Token kind spelling ∷ settled (Some (kind, spelling)) parts
    else Token kind spelling ∷ settled (Some (kind, spelling)) parts

-- the token before joins with the first token of the parts, with nothing between
abbrev pub is_glued : Prev → List TextPart → Bool
is_glued prev [] = false
is_glued prev (Gap [] ∷ parts) = is_glued prev parts
is_glued prev (Gap (b ∷ bytes) ∷ parts) = false
is_glued prev (Token kind spelling ∷ parts) = joins_prev prev kind spelling
