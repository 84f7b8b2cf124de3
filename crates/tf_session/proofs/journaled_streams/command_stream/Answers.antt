-- What was not loaded, or not done, left the targets as they were.
use Rattle.std.proofs.Common.{rules}
use Rattle.tf_session.specs.Session.{contents_of}
use Rattle.tf_session.proofs.JournalRefusing.{not_loaded, not_done}
use Rattle.tf_session.proofs.journaled_streams.command_stream.Goals as goal

pub returns-in-Err-clause-fault : goal.returns-in-Err-clause-fault
returns-in-Err-clause-fault g c = not_loaded c.args.command c.in-Err.fault _ (search rules) (search rules, search rules)

pub returns-in-Err-step-clause-fault : goal.returns-in-Err-step-clause-fault
returns-in-Err-step-clause-fault g c =
    rw c.from.ensures (not_done c.args.command c.in-Err-step.refusal _ (contents_of c.in-Ok.session) (search rules) (search rules) (search rules, search rules))
