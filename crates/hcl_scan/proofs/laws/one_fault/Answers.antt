use Rattle.hcl_scan.proofs.OneTokenization.{one_fault}
use Rattle.hcl_scan.proofs.laws.one_fault.Goals as goal

pub returns : goal.returns
returns c = one_fault
