use Rattle.std.proofs.Common.{◌≡◌, ◌-◌, ◌≤◌, ◌++◌, length}
use Rattle.hcl_layout.specs.Gaps.Inner.Stages.{with_gaps}
use Rattle.hcl_layout.proofs.GapsLemmas.EditLemmas.{remaining_edits}
use Rattle.hcl_layout.proofs.gaps.edits.gap_edits.Given as goal

abbrev pub invariant-loop-i : goal.invariant-loop-i
invariant-loop-i l = record {
  within : l.i ≤ length l.scanned.pairs;
  edits_remain : l.edits.items ++ remaining_edits l.scanned.pairs (with_gaps l.gaps l.scanned.pairs) l.scanned.last l.i ≡ remaining_edits l.scanned.pairs (with_gaps l.gaps l.scanned.pairs) l.scanned.last 0;
}

abbrev pub decreases-loop-i : goal.decreases-loop-i
decreases-loop-i l = length l.scanned.pairs - l.i
