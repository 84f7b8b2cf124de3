use Rattle.std.proofs.Common.{◌≡◌, length}
use Rattle.std.specs.List.Sorted.{IsPermutation, IsStable}
use Rattle.tf_findings.specs.Order.{report_order}
use Rattle.tf_findings.proofs.neighbours.exchange_neighbours.Given as goal

abbrev pub invariant-loop-i : goal.invariant-loop-i
invariant-loop-i l = record {
  permutation : IsPermutation l.fn.found l.found;
  stable : IsStable report_order l.fn.found l.found;
  len : length l.found ≡ length l.fn.found;
}
