use Rattle.hcl_layout.proofs.LayoutTexts.{layout_of_layout}
use Rattle.hcl_layout.proofs.laws.layout_of_layout.Goals as goal

pub returns : goal.returns
returns c = layout_of_layout c.layout_is_laid_out.ensures c.one_layout.ensures
