use Rattle.hcl_scan.proofs.OtherGaps.{gaps_of}
use Rattle.hcl_scan.proofs.laws.gaps_of.Goals as goal

pub returns : goal.returns
returns c = gaps_of
