-- Runs of units. A unit is given by its length: how many bytes the unit has with which a text
-- begins, 0 if it begins with none. The length may depend on whether a line begins there.
use Rattle.std.specs.Prelude.{◌≡◌, ℕ, ◌<◌, ◌==◌, Bool, List, [], ◌∷◌, ◌++◌, length, if◌then◌else◌, ⊤}
use Rattle.std.specs.List.{concat}
use Rattle.hcl_token.specs.Bytes.{line_feed}

abbrev pub UnitLength : Type 0
UnitLength = Bool → List ℕ → ℕ

-- whether a line begins after a text: it ends in LF, or it is empty and a line begins before it
abbrev pub is_line_start_after : Bool → List ℕ → Bool
is_line_start_after at_line_start [] = at_line_start
is_line_start_after at_line_start (b ∷ t) = is_line_start_after (b == line_feed) t

-- these are consecutive units, with rest after them
abbrev pub AreUnitsOf : UnitLength → Bool → List (List ℕ) → List ℕ → Type 0
AreUnitsOf unit at_line_start [] rest = ⊤
AreUnitsOf unit at_line_start (u ∷ us) rest =
    (0 < length u)
    × (unit at_line_start (u ++ (concat us ++ rest)) ≡ length u)
    × AreUnitsOf unit (is_line_start_after at_line_start u) us rest

-- the text is consecutive units, with rest after it
abbrev pub IsRun : UnitLength → Bool → List ℕ → List ℕ → Type 0
IsRun unit at_line_start text rest =
    (us : List (List ℕ)) × (text ≡ concat us)
    × AreUnitsOf unit at_line_start us rest

-- one byte at a time: the first byte passes, given what follows it
abbrev pub byte_unit : (ℕ → List ℕ → Bool) → UnitLength
byte_unit passes at_line_start [] = 0
byte_unit passes at_line_start (b ∷ rest) = if passes b rest then 1 else 0
