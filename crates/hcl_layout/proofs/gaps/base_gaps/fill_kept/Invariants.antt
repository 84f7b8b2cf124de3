use Rattle.std.proofs.Common.{◌≡◌, ◌-◌, ◌≤◌, ◌++◌, length, replicate, take}
use Rattle.hcl_layout.specs.Gaps.Inner.Stages.{KEEP_GAP}
use Rattle.hcl_layout.proofs.gaps.base_gaps.fill_kept.Given as goal

abbrev pub invariant-loop-i : goal.invariant-loop-i
invariant-loop-i l = record {
  filled : take l.i l.gaps.items ≡ take l.from l.fn.gaps.items ++ replicate (l.i - l.from) KEEP_GAP;
  later : l.from ≤ l.i;
  same : length l.gaps.items ≡ length l.fn.gaps.items;
}
