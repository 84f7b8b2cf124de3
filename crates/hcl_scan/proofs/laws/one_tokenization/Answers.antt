use Rattle.hcl_scan.proofs.OneTokenization.{one_tokenization}
use Rattle.hcl_scan.proofs.laws.one_tokenization.Goals as goal

pub returns : goal.returns
returns c = one_tokenization
