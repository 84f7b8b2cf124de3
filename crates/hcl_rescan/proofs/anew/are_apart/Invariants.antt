use Rattle.std.proofs.Common.{take}
use Rattle.hcl_scan.specs.Follows.{AreApart}
use Rattle.hcl_rescan.proofs.anew.are_apart.Given as goal

abbrev pub invariant-loop-i : goal.invariant-loop-i
invariant-loop-i l = AreApart (take l.i l.scanned.pairs)
