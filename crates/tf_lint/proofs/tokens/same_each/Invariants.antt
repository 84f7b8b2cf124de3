use Rattle.std.proofs.Common.{◌≡◌, take, drop}
use Rattle.hcl_scan.specs.Follows.{tokens_of}
use Rattle.tf_lint.proofs.tokens.same_each.Given as goal

abbrev pub invariant-loop-k : goal.invariant-loop-k
invariant-loop-k l = take l.k (drop l.from (tokens_of l.old.pairs)) ≡ take l.k (drop l.to (tokens_of l.new.pairs))
