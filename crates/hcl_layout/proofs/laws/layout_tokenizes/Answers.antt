use Rattle.hcl_layout.proofs.LayoutTokens.{layout_tokenizes}
use Rattle.hcl_layout.proofs.laws.layout_tokenizes.Goals as goal

pub returns : goal.returns
returns c = layout_tokenizes c.layout_fits.ensures c.tokenization_follows_modes.ensures c.other_gaps.ensures c.writes_back.ensures c.keeps_tokens.ensures
