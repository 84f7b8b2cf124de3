use Rattle.hcl_layout.proofs.LayoutTexts.{one_layout}
use Rattle.hcl_layout.proofs.laws.one_layout.Goals as goal

pub returns : goal.returns
returns c = one_layout c.one_tokenization.ensures
