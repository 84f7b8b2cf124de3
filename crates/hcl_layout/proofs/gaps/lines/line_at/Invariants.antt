use Rattle.std.proofs.Common.{true}
use Rattle.hcl_layout.proofs.GapsLemmas.LineLemmas.{IsInLine}
use Rattle.hcl_layout.proofs.gaps.lines.line_at.Given as goal

abbrev pub invariant-loop-i : goal.invariant-loop-i
invariant-loop-i l = IsInLine l.scanned.pairs l.at true l.i l.open_heredocs
