use Rattle.std.proofs.Common.{arith}
use Rattle.hcl_layout.proofs.GapsLemmas.Copied.{item_order, item_step}
use Rattle.hcl_layout.proofs.GapsLemmas.EditLemmas.{length_end}
use Rattle.hcl_scan.proofs.TokenCount.{few_tokens}
use Rattle.hcl_layout.proofs.gaps.limit.len_within_limit.Goals as goal

pub token_len-total-requires-clause-gap : goal.token_len-total-requires-clause-gap
token_len-total-requires-clause-gap c = (item_order c.args.scanned.now.pairs c.loop-i.i c.item.result (omega (arith, c.loop-i-test.true, c.len-i-end.ensures.value)) c.item.ensures).0

pub token_len-total-requires-clause-token : goal.token_len-total-requires-clause-token
token_len-total-requires-clause-token c = (item_order c.args.scanned.now.pairs c.loop-i.i c.item.result (omega (arith, c.loop-i-test.true, c.len-i-end.ensures.value)) c.item.ensures).1

pub overflow_add-total : goal.overflow_add-total
overflow_add-total c =
    omega (arith, few_tokens c.args.scanned.now.text c.args.scanned.now.pairs c.args.scanned.now.last c.len-i-end.ensures.tokenization, c.loop-i-test.true, c.len-i-end.ensures.value, c.loop-i.invariant.small, c.token_len-total.ensures.bounded)

pub loop-i-preserved : goal.loop-i-preserved
loop-i-preserved c = record {
  rest = omega (arith, item_step c.args.gaps.now c.args.scanned.now.pairs c.loop-i.i c.item.result c.token_len-total.result c.requires (omega (arith, c.loop-i-test.true, c.len-i-end.ensures.value)) c.item.ensures c.token_len-total.ensures.value, c.loop-i.invariant.rest);
  small = omega (arith, c.loop-i.invariant.small, c.token_len-total.ensures.bounded);
}

pub returns-clause-len : goal.returns-clause-len
returns-clause-len c =
    omega (arith, length_end c.args.gaps.now c.args.scanned.now.pairs c.loop-i.i c.requires (omega (arith, c.loop-i-test.false, c.len-i-end.ensures.value)), c.loop-i.invariant.rest)
