use Rattle.tf_session.proofs.OneMachine.{without_take_one_machine}
use Rattle.tf_session.proofs.laws.machines_agree_without_take.Goals as goal

pub returns : goal.returns
returns c = without_take_one_machine c.fix_has_edits.ensures
