use Rattle.hcl_layout.proofs.LayoutTexts.{layout_keeps_tokens}
use Rattle.hcl_layout.proofs.laws.layout_keeps_tokens.Goals as goal

pub returns : goal.returns
returns c = layout_keeps_tokens c.layout_tokenizes.ensures c.one_tokenization.ensures c.parsed_tokens_are_apart.ensures c.keeps_tokens.ensures
