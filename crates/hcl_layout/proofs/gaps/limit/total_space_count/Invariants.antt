use Rattle.std.proofs.Common.{◌≡◌, ◌*◌, ◌≤◌, take, sum_by}
use Rattle.hcl_layout.specs.Gaps.Inner.Stages.{space_count}
use Rattle.hcl_layout.proofs.gaps.limit.total_space_count.Given as goal

abbrev pub invariant-loop-new : goal.invariant-loop-new
invariant-loop-new l = record {
  value : l.total ≡ sum_by space_count (take l.new-index l.gaps);
  small : l.total ≤ 4294967295 * l.new-index;
}
