use Rattle.hcl_layout.proofs.LayoutTexts.{layout_is_laid_out}
use Rattle.hcl_layout.proofs.laws.layout_is_laid_out.Goals as goal

pub returns : goal.returns
returns c = layout_is_laid_out c.layout_tokenizes.ensures c.one_tokenization.ensures c.parsed_tokens_are_apart.ensures c.own_layout.ensures
