use Rattle.std.proofs.Common.{length, ◌-◌, ◌≡◌, ◌≤◌, drop}
use Rattle.hcl_explain.specs.Lines.{from_closing}
use Rattle.hcl_explain.proofs.lines.from_closing.Given as goal

-- no line before this byte is the marker
abbrev pub invariant-loop-at : goal.invariant-loop-at
invariant-loop-at l =
    (from_closing l.marker (drop l.at l.text) ≡ from_closing l.marker l.text)
    × (l.at ≤ length l.text)

abbrev pub decreases-loop-at : goal.decreases-loop-at
decreases-loop-at l = length l.text - l.at
