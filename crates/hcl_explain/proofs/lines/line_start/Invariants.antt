use Rattle.std.proofs.Common.{◌≡◌}
use Rattle.hcl_explain.specs.Lines.{line_start}
use Rattle.hcl_explain.proofs.lines.line_start.Given as goal

-- no line ends from this byte up to the one given
abbrev pub invariant-loop-start : goal.invariant-loop-start
invariant-loop-start l = line_start l.text l.start ≡ line_start l.text l.at

abbrev pub decreases-loop-start : goal.decreases-loop-start
decreases-loop-start l = l.start
