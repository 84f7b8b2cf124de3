use Rattle.hcl_layout.specs.Gaps.Layout.{layout_pairs}
use Rattle.hcl_layout.proofs.GapsLemmas.TokensKept.{same_tokens_of}
use Rattle.hcl_layout.proofs.GapsLemmas.LayoutPieces.{layout_tokens}
use Rattle.hcl_layout.proofs.gaps.laws.keeps_tokens.Goals as goal

pub returns : goal.returns
returns c = λ pairs. same_tokens_of (layout_pairs pairs) pairs (layout_tokens pairs)
