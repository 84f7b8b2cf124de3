use Rattle.std.proofs.Common.{◌≡◌, ◌-◌, suc, sym, ap, ◌∙◌, arith}
use Rattle.hcl_token.specs.declared.span.Span.{Span}
use Rattle.hcl_token.specs.Pairs.{gap_from}
use Rattle.hcl_token.proofs.OrderLemmas.{gap-first, gap-after}
use Rattle.hcl_token.proofs.line_column.gap_from.Goals as goal

pub returns-then-i-eq0 : goal.returns-then-i-eq0
returns-then-i-eq0 c = sym (ap (gap_from c.args.from c.args.tokens.now) c.if-i-eq0.true ∙ gap-first c.args.tokens.now c.args.from)

pub returns-else-i-eq0 : goal.returns-else-i-eq0
returns-else-i-eq0 c =
    let before : suc (c.args.i - 1) ≡ c.args.i = omega arith in
    c.stop.ensures
    ∙ ap (λ (t : Span). t.stop) c.index-tokens-i.is
    ∙ sym (gap-after c.args.tokens.now c.args.from (c.args.i - 1) _ (omega arith))
    ∙ ap (gap_from c.args.from c.args.tokens.now) before
