use Rattle.std.proofs.Common.{◌≡◌}
use Rattle.hcl_explain.specs.Sequences.{last_before}
use Rattle.hcl_explain.proofs.near.last_before.Given as goal

-- the tokens from this one on are dropped
abbrev pub invariant-loop-k : goal.invariant-loop-k
invariant-loop-k l =
    last_before l.scanned.pairs l.lines l.k ≡ last_before l.scanned.pairs l.lines l.i

abbrev pub decreases-loop-k : goal.decreases-loop-k
decreases-loop-k l = l.k
