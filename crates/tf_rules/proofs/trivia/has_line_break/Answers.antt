use Rattle.std.proofs.Common.{◌||◌, ◌+◌, sym, ap, ◌∙◌, arith}
use Rattle.tf_rules.proofs.TriviaLemmas.{break_step}
use Rattle.tf_rules.specs.Trivia.{token_range, has_line_break, depth_after}
use Rattle.tf_rules.proofs.trivia.has_line_break.Goals as goal

pub returns-then-is_outer_line_break : goal.returns-then-is_outer_line_break
returns-then-is_outer_line_break c =
    let step = break_step c.args.count_comments c.loop-i.depth c.args.scanned.now.pairs c.loop-i.i c.args.past c.kind-kind.result (omega (arith, c.loop-i-test.true, c.min-i-end.ensures)) c.kind-kind.ensures in
    let now = ap (λ b. b || has_line_break c.args.count_comments (depth_after c.kind-kind.result c.loop-i.depth) (token_range c.args.scanned.now.pairs (c.loop-i.i + 1) c.args.past)) (sym c.if-is_outer_line_break.true ∙ c.is_outer_line_break.ensures) in
    now ∙ (sym step ∙ c.loop-i.invariant.1)

pub loop-i-preserved : goal.loop-i-preserved
loop-i-preserved c =
    let step = break_step c.args.count_comments c.loop-i.depth c.args.scanned.now.pairs c.loop-i.i c.args.past c.kind-kind.result (omega (arith, c.loop-i-test.true, c.min-i-end.ensures)) c.kind-kind.ensures in
    let now = ap (λ b. b || has_line_break c.args.count_comments (depth_after c.kind-kind.result c.loop-i.depth) (token_range c.args.scanned.now.pairs (c.loop-i.i + 1) c.args.past)) (sym c.if-is_outer_line_break.false ∙ c.is_outer_line_break.ensures) in
    let same = ap (λ d. has_line_break c.args.count_comments d (token_range c.args.scanned.now.pairs (c.loop-i.i + 1) c.args.past)) c.depth_after-depth.ensures.value in
    (omega (arith, c.depth_after-depth.ensures.bound, c.loop-i.invariant.0), same ∙ (now ∙ (sym step ∙ c.loop-i.invariant.1)))
