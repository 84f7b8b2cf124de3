use Rattle.tf_rules.specs.Unbroken.{AreUnbroken}
use Rattle.tf_rules.proofs.unbroken.first_break.Given as goal

abbrev pub invariant-loop-i : goal.invariant-loop-i
invariant-loop-i l = AreUnbroken l.fn.scanned.pairs l.fn.first l.i
