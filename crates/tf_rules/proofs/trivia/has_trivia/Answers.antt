use Rattle.std.proofs.Common.{◌||◌, ◌+◌, sym, ap, ◌∙◌, arith}
use Rattle.tf_rules.proofs.TriviaLemmas.{trivia_step}
use Rattle.tf_rules.specs.Trivia.{token_range, has_trivia}
use Rattle.tf_rules.proofs.trivia.has_trivia.Goals as goal

pub returns-then-is_trivia : goal.returns-then-is_trivia
returns-then-is_trivia c =
    let step = trivia_step c.args.scanned.now.pairs c.loop-i.i c.args.past c.kind.result (omega (arith, c.loop-i-test.true, c.min-i-end.ensures)) c.kind.ensures in
    let now = ap (λ b. b || has_trivia (token_range c.args.scanned.now.pairs (c.loop-i.i + 1) c.args.past)) (sym c.if-is_trivia.true ∙ c.is_trivia.ensures) in
    now ∙ (sym step ∙ c.loop-i.invariant)

pub loop-i-preserved : goal.loop-i-preserved
loop-i-preserved c =
    let step = trivia_step c.args.scanned.now.pairs c.loop-i.i c.args.past c.kind.result (omega (arith, c.loop-i-test.true, c.min-i-end.ensures)) c.kind.ensures in
    let now = ap (λ b. b || has_trivia (token_range c.args.scanned.now.pairs (c.loop-i.i + 1) c.args.past)) (sym c.if-is_trivia.false ∙ c.is_trivia.ensures) in
    now ∙ (sym step ∙ c.loop-i.invariant)
