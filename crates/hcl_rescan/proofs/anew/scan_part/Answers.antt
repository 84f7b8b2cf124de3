use Rattle.hcl_rescan.proofs.anew.scan_part.Goals as goal

pub returns-in-Err-clause-fault : goal.returns-in-Err-clause-fault
returns-in-Err-clause-fault c = (c.in-Err.fault, c.in-Err.ensures.fault, c.fault_of_part.ensures)
