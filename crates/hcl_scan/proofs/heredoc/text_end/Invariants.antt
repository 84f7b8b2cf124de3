use Rattle.std.proofs.Common.{length, ◌-◌, ◌≡◌, ◌+◌, ◌≤◌, drop}
use Rattle.hcl_scan.specs.Closing.{heredoc_unit}
use Rattle.hcl_scan.specs.Inner.RunLength.{run_length}
use Rattle.hcl_scan.proofs.heredoc.text_end.Given as goal

abbrev pub invariant-lines : goal.invariant-lines
invariant-lines l =
    let len = heredoc_unit l.marker in
    (l.at + run_length len l.is_line_start (drop l.at l.text) ≡ l.from + run_length len l.at_line_start (drop l.from l.text)) × (l.at ≤ length l.text)

abbrev pub decreases-lines : goal.decreases-lines
decreases-lines l = length l.text - l.at
