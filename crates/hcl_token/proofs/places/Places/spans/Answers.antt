use Rattle.std.proofs.Common.{ap, ◌∙◌}
use Rattle.hcl_token.specs.Pairs.{spans_from}
use Rattle.hcl_token.proofs.OrderLemmas.{spans_again}
use Rattle.hcl_token.proofs.places.Places.spans.Goals as goal

pub returns : goal.returns
returns c =
    let known = c.self.invariant.1.ordered in
    spans_again c.self.inside.text.now c.self.inside.tokens.now 0 c.self.invariant.0 known.order known.within ∙ ap (spans_from 0) c.self.view_is
