use Rattle.std.proofs.Common.{◌≡◌}
use Rattle.hcl_layout.proofs.GapsLemmas.CellCode.{breaks_from}
use Rattle.hcl_layout.proofs.gaps.cells.has_multiline_comment.Given as goal

abbrev pub invariant-loop-i : goal.invariant-loop-i
invariant-loop-i l = breaks_from l.scanned.pairs l.i l.past ≡ breaks_from l.scanned.pairs l.at l.past
