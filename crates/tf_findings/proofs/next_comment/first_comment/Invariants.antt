use Rattle.tf_findings.specs.Inner.NextComment.{AreNoComments}
use Rattle.tf_findings.proofs.next_comment.first_comment.Given as goal

abbrev pub invariant-loop-i : goal.invariant-loop-i
invariant-loop-i l = AreNoComments l.fn.scanned.pairs l.fn.from l.i
