use Rattle.std.proofs.Common.{◌-◌, length, ◌∙◌, arith}
use Rattle.hcl_layout.proofs.GapsLemmas.LineSpans.{last_joined, none_joined}
use Rattle.hcl_layout.proofs.gaps.line_spans.can_last_be_joined.Goals as goal

pub returns-then-count-eq0 : goal.returns-then-count-eq0
returns-then-count-eq0 c = none_joined c.args.spans.now c.if-count-eq0.true

pub returns : goal.returns
returns c = c.can_be_joined.ensures ∙ last_joined c.args.spans.now (length c.args.spans.now - 1) (omega (arith, c.if-count-eq0.false))
