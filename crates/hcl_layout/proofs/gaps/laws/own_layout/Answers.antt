use Rattle.hcl_layout.proofs.GapsLemmas.LayoutPieces.{layout_again}
use Rattle.hcl_layout.proofs.gaps.laws.own_layout.Goals as goal

pub returns : goal.returns
returns c = layout_again
