use Rattle.std.proofs.Common.{◌≡◌, ◌+◌, ◌≤◌, slice_get}
use Rattle.hcl_explain.specs.Openings.{open_before, innermost_open}
use Rattle.hcl_explain.proofs.openings.innermost_open.Given as goal

abbrev pub invariant-loop-i : goal.invariant-loop-i
invariant-loop-i l = record {
  within : l.i + l.closed ≤ l.before;
  opened :
      slice_get (open_before l.scanned.pairs l.i) l.closed
      ≡ innermost_open l.scanned.pairs l.before;
}

abbrev pub decreases-loop-i : goal.decreases-loop-i
decreases-loop-i l = l.i
