use Rattle.std.proofs.Common.{◌≡◌, replicate}
use Rattle.hcl_layout.proofs.gaps.edits.spaces.Given as goal

abbrev pub invariant-loop : goal.invariant-loop
invariant-loop l = l.gap.items ≡ replicate l.counter 32
