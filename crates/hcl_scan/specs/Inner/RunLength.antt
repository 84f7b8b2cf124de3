-- The number of bytes of the longest run with which a text begins. `RunLemmas` of proofs/ shows
-- that it is that.
use Rattle.std.specs.Prelude.{◌≡◌, false, ℕ, zero, suc, ◌-◌, ◌==◌, Bool, not, ◌||◌, List, [], ◌∷◌}
use Rattle.std.specs.Prelude.{if◌then◌else◌}
use Rattle.hcl_scan.specs.Runs.{UnitLength}

-- where the first `skip` bytes belong to a unit already
abbrev pub run_from : UnitLength → Bool → ℕ → List ℕ → ℕ
run_from unit at_line_start skip [] = 0
run_from unit at_line_start (suc skip) (b ∷ t) = suc (run_from unit (b == 10) skip t)
run_from unit at_line_start zero (b ∷ t) =
    if unit at_line_start (b ∷ t) == 0
    then 0
    else suc (run_from unit (b == 10) (unit at_line_start (b ∷ t) - 1) t)

abbrev pub run_length : UnitLength → Bool → List ℕ → ℕ
run_length unit at_line_start t = run_from unit at_line_start 0 t

-- a byte that is a unit of quoted text whatever follows it
abbrev pub is_ordinary_quoted : ℕ → Bool
is_ordinary_quoted b = not (b == 34 || b == 36 || b == 37 || b == 92 || b == 10 || b == 13)

-- a byte that is a unit of a comment that ends at `*/` whatever follows it
abbrev pub is_ordinary_inline : ℕ → Bool
is_ordinary_inline b = not (b == 42 || b == 10)

-- a byte that is a unit of a heredoc whatever follows it, where no line begins
abbrev pub is_ordinary_heredoc : ℕ → Bool
is_ordinary_heredoc b = not (b == 36 || b == 37 || b == 10)

-- the byte is a unit wherever no line begins, and ends no line
abbrev pub IsOrdinary : UnitLength → ℕ → Type 0
IsOrdinary unit b = ((t : List ℕ) → unit false (b ∷ t) ≡ 1) × ((b == 10) ≡ false)
