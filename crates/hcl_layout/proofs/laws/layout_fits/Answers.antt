use Rattle.hcl_layout.proofs.LayoutTokens.{layout_fits}
use Rattle.hcl_layout.proofs.laws.layout_fits.Goals as goal

pub returns : goal.returns
returns c = layout_fits c.tokenization_follows_modes.ensures c.gaps_of.ensures c.lines_have_all_tokens.ensures
