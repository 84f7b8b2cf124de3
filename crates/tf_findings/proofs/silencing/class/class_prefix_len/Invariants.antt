use Rattle.std.proofs.Common.{◌≡◌, ◌+◌, drop}
use Rattle.tf_findings.specs.Inner.ByteCounts.{class_prefix_len}
use Rattle.tf_findings.proofs.silencing.class.class_prefix_len.Given as goal

abbrev pub invariant-loop-b : goal.invariant-loop-b
invariant-loop-b l = (l.n ≡ l.b-index) × (l.n + class_prefix_len l.fn.class (drop l.b-index l.fn.t) ≡ class_prefix_len l.fn.class l.fn.t)
