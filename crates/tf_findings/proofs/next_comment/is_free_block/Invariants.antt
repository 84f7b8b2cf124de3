use Rattle.std.proofs.Common.{◌≡◌, ◌+◌, true, false}
use Rattle.tf_findings.specs.Inner.NextComment.{AreNoComments, HasComment}
use Rattle.tf_findings.proofs.next_comment.is_free_block.Given as goal

abbrev pub invariant-loop-i : goal.invariant-loop-i
invariant-loop-i l = record {
  free : l.is_free ≡ true → AreNoComments l.fn.scanned.pairs l.fn.from (l.fn.from + l.i);
  comment : l.is_free ≡ false → HasComment l.fn.scanned.pairs l.fn.from (l.fn.from + l.i);
}
