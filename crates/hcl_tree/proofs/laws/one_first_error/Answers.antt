use Rattle.hcl_tree.proofs.FaultLemmas.{one_error}
use Rattle.hcl_tree.proofs.laws.one_first_error.Goals as goal

pub returns : goal.returns
returns c = one_error
