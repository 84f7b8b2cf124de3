use Rattle.hcl_layout.proofs.LayoutTokens.{laid_out_is_text}
use Rattle.hcl_layout.proofs.laws.laid_out_is_text.Goals as goal

pub returns : goal.returns
returns c = laid_out_is_text c.layout_tokenizes.ensures c.one_tokenization.ensures
