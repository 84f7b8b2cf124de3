use Rattle.std.proofs.Common.{length, ◌-◌, ◌≡◌, ◌++◌, ◌≤◌, drop}
use Rattle.hcl_explain.specs.Sequences.{line_without_dollars}
use Rattle.hcl_explain.proofs.without.push_without_dollars.Given as goal

-- what was added, with what is left of the line, is all
abbrev pub invariant-loop-at : goal.invariant-loop-at
invariant-loop-at l =
    (l.out.items ++ line_without_dollars (drop l.at l.line)
    ≡ l.initial.out.items ++ line_without_dollars l.line)
    × (l.at ≤ length l.line)

abbrev pub decreases-loop-at : goal.decreases-loop-at
decreases-loop-at l = length l.line - l.at
