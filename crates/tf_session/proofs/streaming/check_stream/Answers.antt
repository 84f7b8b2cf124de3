-- The whole text is refused.
use Rattle.std.proofs.Common.{rules}
use Rattle.tf_session.proofs.Refusing.{not_checked}
use Rattle.tf_session.proofs.streaming.check_stream.Goals as goal

pub returns-in_err-yes-clause-fault : goal.returns-in_err-yes-clause-fault
returns-in_err-yes-clause-fault g c = search (rules, not_checked)
