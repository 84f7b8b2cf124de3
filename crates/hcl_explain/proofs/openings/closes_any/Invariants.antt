use Rattle.std.proofs.Common.{◌≤◌}
use Rattle.hcl_explain.specs.Openings.{ClosesAny}
use Rattle.hcl_explain.proofs.openings.closes_any.Given as goal

abbrev pub invariant-loop-at : goal.invariant-loop-at
invariant-loop-at l = record {
  within : l.at ≤ l.before;
  found : ClosesAny l.scanned.pairs l.at l.closing → ClosesAny l.scanned.pairs l.before l.closing;
  left : ClosesAny l.scanned.pairs l.before l.closing → ClosesAny l.scanned.pairs l.at l.closing;
}

abbrev pub decreases-loop-at : goal.decreases-loop-at
decreases-loop-at l = l.at
