use Rattle.hcl_scan.proofs.OneTokenization.{no_tokenization_with_fault}
use Rattle.hcl_scan.proofs.laws.no_tokenization_with_fault.Goals as goal

pub returns : goal.returns
returns c = no_tokenization_with_fault
