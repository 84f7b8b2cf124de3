use Rattle.std.proofs.Common.{◌≡◌, ◌≤◌, take, length}
use Rattle.hcl_scan.specs.Inner.OpeningPlaces.{innermost_place}
use Rattle.hcl_scan.specs.Inner.Openings.{modes_of, places_of}
use Rattle.hcl_scan.proofs.mode.innermost_template_start.Given as goal

-- the openings from i on are braces
abbrev pub invariant-loop-i : goal.invariant-loop-i
invariant-loop-i l =
    (l.i ≤ length l.openings)
    × (innermost_place (modes_of (take l.i l.openings)) (places_of (take l.i l.openings)) ≡ innermost_place (modes_of l.openings) (places_of l.openings))

abbrev pub decreases-loop-i : goal.decreases-loop-i
decreases-loop-i l = l.i
