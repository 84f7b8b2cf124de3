use Rattle.hcl_scan.proofs.WritesBack.{writes_back}
use Rattle.hcl_scan.proofs.laws.writes_back.Goals as goal

pub returns : goal.returns
returns c = writes_back
