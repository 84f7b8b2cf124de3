-- Each message is what its parts write.
use Rattle.tf_session.proofs.fault.RunFaultDisplay.fmt.Goals as goal

pub returns-in-FixBroken-clause-writes : goal.returns-in-FixBroken-clause-writes
returns-in-FixBroken-clause-writes g c = rw c.in-FixBroken.is (rw c.name-name.ensures at c.write.ensures.writes)

pub returns-in-TooLong-clause-writes : goal.returns-in-TooLong-clause-writes
returns-in-TooLong-clause-writes g c = rw c.in-TooLong.is c.write-in-TooLong.ensures.writes

pub returns-in-Blocked-clause-writes : goal.returns-in-Blocked-clause-writes
returns-in-Blocked-clause-writes g c = rw c.in-Blocked.is c.write-in-Blocked.ensures.writes

pub returns-in-Write-clause-writes : goal.returns-in-Write-clause-writes
returns-in-Write-clause-writes g c = rw c.in-Write.is c.write-in-Write.ensures.writes
