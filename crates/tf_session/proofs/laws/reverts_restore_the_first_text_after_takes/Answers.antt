use Rattle.tf_session.proofs.TakeLaws.{reverts_give_the_first_again}
use Rattle.tf_session.proofs.laws.reverts_restore_the_first_text_after_takes.Goals as goal

pub returns : goal.returns
returns c = reverts_give_the_first_again
