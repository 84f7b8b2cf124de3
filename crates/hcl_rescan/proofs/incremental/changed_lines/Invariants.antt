use Rattle.std.proofs.Common.{◌-◌, ◌≤◌, length}
use Rattle.hcl_rescan.specs.Inner.Pieces.{AreBefore}
use Rattle.hcl_rescan.specs.Inner.WholeLines.{IsLineStart}
use Rattle.hcl_rescan.proofs.incremental.changed_lines.Given as goal

abbrev pub invariant-loop-count : goal.invariant-loop-count
invariant-loop-count l = record {
  line_start : IsLineStart l.old l.to.index l.to.at;
  count : l.first ≤ l.count;
  within : l.count ≤ length l.replaced;
  pieces : AreBefore l.replaced l.first l.count l.to.at;
}

abbrev pub decreases-loop-count : goal.decreases-loop-count
decreases-loop-count l = length l.replaced - l.count
