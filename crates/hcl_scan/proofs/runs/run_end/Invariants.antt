use Rattle.std.proofs.Common.{length, ◌-◌, ◌≡◌, ◌+◌, ◌≤◌, drop}
use Rattle.hcl_scan.specs.Inner.RunLength.{run_length}
use Rattle.hcl_scan.proofs.runs.run_end.Given as goal

abbrev pub invariant-units : goal.invariant-units
invariant-units g l =
    let len = g.U.Unit.len l.unit in
    (l.at + run_length len l.is_line_start (drop l.at l.text) ≡ l.from + run_length len l.at_line_start (drop l.from l.text)) × (l.at ≤ length l.text)

abbrev pub decreases-units : goal.decreases-units
decreases-units g l = length l.text - l.at
