use Rattle.std.proofs.Common.{◌≡◌}
use Rattle.hcl_explain.specs.Heredocs.{less_before}
use Rattle.hcl_explain.proofs.heredoc.less_before.Given as goal

-- no such token is from this one on, up to the one given
abbrev pub invariant-loop-k : goal.invariant-loop-k
invariant-loop-k l = less_before l.scanned.pairs l.k ≡ less_before l.scanned.pairs l.i

abbrev pub decreases-loop-k : goal.decreases-loop-k
decreases-loop-k l = l.k
