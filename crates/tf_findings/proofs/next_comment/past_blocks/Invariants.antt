use Rattle.std.proofs.Common.{◌≤◌, ◌-◌, length}
use Rattle.tf_findings.specs.Inner.NextComment.{AreNoComments}
use Rattle.tf_findings.proofs.next_comment.past_blocks.Given as goal

abbrev pub invariant-free : goal.invariant-free
invariant-free l = record {
  later : l.fn.from ≤ l.at;
  within : l.at ≤ length l.fn.scanned.pairs;
  none : AreNoComments l.fn.scanned.pairs l.fn.from l.at;
}

abbrev pub decreases-free : goal.decreases-free
decreases-free l = length l.scanned.pairs - l.at
