-- The message is what its parts write.
use Rattle.edit_record.proofs.lists.change.RefusedDisplay.fmt.Goals as goal

pub returns-in-Length-clause-writes : goal.returns-in-Length-clause-writes
returns-in-Length-clause-writes g c = rw c.in-Length.is c.write.ensures.writes

pub returns-in-Differs-clause-writes : goal.returns-in-Differs-clause-writes
returns-in-Differs-clause-writes g c = rw c.in-Differs.is c.write-in-Differs.ensures.writes
