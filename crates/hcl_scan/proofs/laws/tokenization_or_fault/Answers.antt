use Rattle.hcl_scan.proofs.TokenizationOrFault.{tokens_or_fault}
use Rattle.hcl_scan.proofs.laws.tokenization_or_fault.Goals as goal

pub returns : goal.returns
returns c = tokens_or_fault
