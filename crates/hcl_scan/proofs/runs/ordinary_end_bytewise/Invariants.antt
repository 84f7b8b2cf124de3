use Rattle.std.proofs.Common.{length, false, ◌-◌, ◌≡◌, ◌+◌, ◌≤◌, drop}
use Rattle.hcl_scan.specs.Inner.RunLength.{run_length}
use Rattle.hcl_scan.proofs.runs.ordinary_end_bytewise.Given as goal

abbrev pub invariant-loop-at : goal.invariant-loop-at
invariant-loop-at g l =
    let len = g.U.Unit.len l.unit in
    (l.at + run_length len false (drop l.at l.text) ≡ l.from + run_length len false (drop l.from l.text)) × (l.at ≤ length l.text) × (l.from ≤ l.at)

abbrev pub decreases-loop-at : goal.decreases-loop-at
decreases-loop-at g l = length l.text - l.at
