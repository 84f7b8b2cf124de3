use Rattle.std.proofs.Common.{ap, ◌∙◌}
use Rattle.hcl_token.specs.TokenizedText.{TokenizedText}
use Rattle.hcl_scan.proofs.scanned.Scanned.last_gap.Goals as goal

pub slice_from-requires : goal.slice_from-requires
slice_from-requires c = c.self.invariant.0.within

pub returns : goal.returns
returns c = c.slice_from.ensures ∙ ap (λ (x : TokenizedText). x.last) c.self.view_is
