use Rattle.hcl_layout.proofs.LayoutTexts.{layout_parses}
use Rattle.hcl_layout.proofs.laws.layout_parses.Goals as goal

pub returns : goal.returns
returns c = layout_parses c.layout_tokenizes.ensures c.one_tokenization.ensures c.parsed_tokens_are_apart.ensures c.keeps_tokens.ensures
