use Rattle.std.proofs.Common.{◌≡◌, ◌≤◌, [], slice_range}
use Rattle.hcl_layout.specs.Gaps.Space.{prev_after_all}
use Rattle.hcl_layout.proofs.gaps.space.end_of_nearest.Given as goal

abbrev pub invariant-loop-past : goal.invariant-loop-past
invariant-loop-past l = record {
  later : l.first ≤ l.past;
  within : l.past ≤ l.to;
  same : prev_after_all (slice_range l.scanned.pairs l.first l.past) [] ≡ prev_after_all (slice_range l.scanned.pairs l.first l.to) [];
}

abbrev pub decreases-loop-past : goal.decreases-loop-past
decreases-loop-past l = l.past
