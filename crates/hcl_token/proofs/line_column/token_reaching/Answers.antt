use Rattle.std.proofs.Common.{arith}
use Rattle.hcl_token.proofs.LastLineLemmas.{reaching_some, reaching_more}
use Rattle.hcl_token.proofs.line_column.token_reaching.Goals as goal

pub overflow_sub-i : goal.overflow_sub-i
overflow_sub-i c = reaching_some c.args.tokens.now c.args.from c.args.begin c.loop-i.i c.gap_from.result c.requires c.gap_from.ensures c.loop-i-test.true

pub loop-i-smaller : goal.loop-i-smaller
loop-i-smaller c =
    let some = reaching_some c.args.tokens.now c.args.from c.args.begin c.loop-i.i c.gap_from.result c.requires c.gap_from.ensures c.loop-i-test.true in
    omega (arith, some)

pub loop-i-preserved : goal.loop-i-preserved
loop-i-preserved c =
    reaching_more c.args.tokens.now c.args.from c.args.begin c.loop-i.i c.gap_from.result c.requires c.gap_from.ensures c.loop-i-test.true c.loop-i.invariant.0 c.loop-i.invariant.1
