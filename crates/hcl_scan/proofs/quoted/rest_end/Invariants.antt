use Rattle.std.proofs.Common.{length, false, ◌-◌, ◌≡◌, ◌+◌, ◌≤◌, drop}
use Rattle.hcl_scan.specs.Lexeme.{quote_unit}
use Rattle.hcl_scan.specs.Inner.RunLength.{run_length}
use Rattle.hcl_scan.proofs.quoted.rest_end.Given as goal

abbrev pub invariant-loop-at : goal.invariant-loop-at
invariant-loop-at l =
    (l.at + run_length quote_unit false (drop l.at l.text) ≡ l.from + run_length quote_unit false (drop l.from l.text)) × (l.at ≤ length l.text)

abbrev pub decreases-loop-at : goal.decreases-loop-at
decreases-loop-at l = length l.text - l.at
