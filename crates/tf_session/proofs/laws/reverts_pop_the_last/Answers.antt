use Rattle.tf_session.proofs.RunLaws.{reverts_pop}
use Rattle.tf_session.proofs.laws.reverts_pop_the_last.Goals as goal

pub returns : goal.returns
returns c = reverts_pop
