use Rattle.std.proofs.Common.{◌≡◌, ◌≤◌, reverse, length}
use Rattle.hcl_layout.specs.Gaps.Inner.Stages.{close_brackets}
use Rattle.hcl_layout.proofs.gaps.indent.close_brackets.Given as goal

abbrev pub invariant-loop-surplus : goal.invariant-loop-surplus
invariant-loop-surplus l = record {
  rest : close_brackets l.remaining (reverse l.surplus.items) ≡ close_brackets l.closed (reverse l.fn.surplus.items);
  shorter : length l.surplus.items ≤ length l.fn.surplus.items;
}

abbrev pub decreases-loop-surplus : goal.decreases-loop-surplus
decreases-loop-surplus l = length l.surplus.items
