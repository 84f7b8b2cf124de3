use Rattle.std.proofs.Common.{length, ◌-◌, ◌≡◌, ◌+◌, ◌≤◌, drop}
use Rattle.std.specs.List.{prefix_len}
use Rattle.hcl_scan.specs.Inner.Openings.{is_not_line_break}
use Rattle.hcl_explain.proofs.lines.marker_len.Given as goal

abbrev pub invariant-loop-at : goal.invariant-loop-at
invariant-loop-at l =
    (l.at + prefix_len is_not_line_break (drop l.at l.text) ≡ prefix_len is_not_line_break l.text)
    × (l.at ≤ length l.text)

abbrev pub decreases-loop-at : goal.decreases-loop-at
decreases-loop-at l = length l.text - l.at
