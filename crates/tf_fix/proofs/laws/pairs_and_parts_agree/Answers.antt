use Rattle.tf_fix.proofs.PairLemmas.{by_pairs}
use Rattle.tf_fix.proofs.laws.pairs_and_parts_agree.Goals as goal

pub returns : goal.returns
returns c = by_pairs
