use Rattle.std.proofs.Common.{◌≡◌, ◌+◌, ◌%◌, ◌^◌, take}
use Rattle.hcl_rescan.specs.Inner.Sequences.{opened, closed}
use Rattle.hcl_rescan.proofs.sequences.close_what_they_open.Given as goal

abbrev pub invariant-loop-k : goal.invariant-loop-k
invariant-loop-k l = (l.sum + closed (take l.k l.tokens)) % 2 ^ 64 ≡ (l.k + opened (take l.k l.tokens)) % 2 ^ 64
