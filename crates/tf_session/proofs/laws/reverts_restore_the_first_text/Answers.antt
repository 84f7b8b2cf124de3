use Rattle.tf_session.proofs.RunLaws.{reverts_give_the_first}
use Rattle.tf_session.proofs.laws.reverts_restore_the_first_text.Goals as goal

pub returns : goal.returns
returns c = reverts_give_the_first
