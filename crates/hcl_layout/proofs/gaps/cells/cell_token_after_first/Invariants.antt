use Rattle.std.proofs.Common.{◌≡◌, ◌+◌}
use Rattle.hcl_layout.proofs.GapsLemmas.CellCode.{found_from}
use Rattle.hcl_layout.proofs.gaps.cells.cell_token_after_first.Given as goal

abbrev pub invariant-loop-i : goal.invariant-loop-i
invariant-loop-i l = found_from l.cell l.scanned.pairs l.i l.past ≡ found_from l.cell l.scanned.pairs (l.at + 1) l.past
