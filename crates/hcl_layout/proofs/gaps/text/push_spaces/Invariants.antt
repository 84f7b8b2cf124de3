use Rattle.std.proofs.Common.{◌≡◌, ◌++◌, replicate}
use Rattle.hcl_layout.proofs.gaps.text.push_spaces.Given as goal

abbrev pub invariant-loop : goal.invariant-loop
invariant-loop l = l.out.items ≡ l.initial.out.items ++ replicate l.counter 32
