-- One pair more.
use Rattle.std.proofs.Common.{◌∙◌}
use Rattle.std.proofs.lemmas.List.Sorted.{IsPermutation-trans}
use Rattle.tf_findings.proofs.neighbours.exchange_neighbours.Goals as goal

pub loop-i-preserved : goal.loop-i-preserved
loop-i-preserved c = record {
  permutation = IsPermutation-trans _ _ _ c.loop-i.invariant.permutation c.exchange_at.ensures.permutation;
  stable = λ x. c.exchange_at.ensures.stable x ∙ c.loop-i.invariant.stable x;
  len = c.exchange_at.ensures.len ∙ c.loop-i.invariant.len;
}
