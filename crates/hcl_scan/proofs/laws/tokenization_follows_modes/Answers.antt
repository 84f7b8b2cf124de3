use Rattle.hcl_scan.proofs.TokenizationFollows.{tokenization_follows_modes}
use Rattle.hcl_scan.proofs.laws.tokenization_follows_modes.Goals as goal

pub returns : goal.returns
returns c = tokenization_follows_modes
