-- Which new journals may replace the journal, as the laws take it for granted. What a command finds
-- out about that (`Checks`) is any function: these say what it has to answer.
use Rattle.std.specs.Prelude.{◌≡◌, Option, true, false}
use Rattle.tf_saving.specs.Disk.{File, Checks, new_after_power_loss}
use Rattle.tf_saving.specs.Runs.{Pair}

-- whatever the old journal is, this one may be adopted for this text
abbrev pub IsAdoptable : Checks → Pair → Type 0
IsAdoptable checks p = (old : Option File) → checks.can_adopt p.text old p.journal ≡ true

-- neither this new journal may be adopted, nor what a power loss leaves of it
abbrev pub IsUnadoptable : Checks → Pair → Option File → Type 0
IsUnadoptable checks p new =
    (checks.can_adopt p.text p.journal new ≡ false)
    × (checks.can_adopt p.text p.journal (new_after_power_loss new) ≡ false)
