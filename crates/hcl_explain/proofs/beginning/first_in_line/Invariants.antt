use Rattle.std.proofs.Common.{◌≡◌}
use Rattle.hcl_explain.specs.Explanations.{first_in_line}
use Rattle.hcl_explain.proofs.beginning.first_in_line.Given as goal

-- no line ends from this token up to the one given
abbrev pub invariant-loop-k : goal.invariant-loop-k
invariant-loop-k l = first_in_line l.scanned.pairs l.k ≡ first_in_line l.scanned.pairs l.i

abbrev pub decreases-loop-k : goal.decreases-loop-k
decreases-loop-k l = l.k
