use Rattle.std.proofs.Common.{◌≡◌, ◌+◌, ◌%◌, ◌^◌, ◌≤◌, length, take, get_or, arith, ap, sym, subst, ◌∙◌, List, suc}
use Rattle.std.proofs.lemmas.Bool.{eqb-true}
use Rattle.hcl_token.specs.declared.span.Span.{Span}
use Rattle.hcl_rescan.specs.Inner.Sequences.{opened, closed, opens, closes}
use Rattle.hcl_rescan.proofs.SequenceLemmas.{opened_more, closed_more, sum_more, sum_all}
use Rattle.hcl_rescan.proofs.sequences.close_what_they_open.Goals as goal

pub loop-k-preserved : goal.loop-k-preserved
loop-k-preserved c =
    let tokens = c.args.tokens.now in
    let k = c.loop-k.k in
    let one = c.index-tokens-k.result in
    let sum = c.loop-k.sum in
    let change = c.change-sum.result in
    let before : List Span = take k tokens in
    let here : Span = get_or tokens k one in
    let more : opened (take (suc k) tokens) ≡ opened before + opens here.kind = opened_more tokens k one c.loop-k-test.true in
    let less : closed (take (suc k) tokens) ≡ closed before + closes here.kind = closed_more tokens k one c.loop-k-test.true in
    let next : suc k ≡ k + 1 = omega arith in
    let kind = c.kind.ensures ∙ ap (λ (s : Span). s.kind) c.index-tokens-k.is in
    let change_is : change + closes here.kind ≡ 1 + opens here.kind = subst (λ x. change + closes x ≡ 1 + opens x) kind c.change-sum.ensures in
    let all = sum_more sum change k (closed before) (opened before) (closes here.kind) (opens here.kind) c.loop-k.invariant change_is in
    let put = subst (λ n. ((sum + change) % 2 ^ 64 + n) % 2 ^ 64 ≡ (k + 1 + (opened before + opens here.kind)) % 2 ^ 64) (sym less) all in
    let both = subst (λ n. ((sum + change) % 2 ^ 64 + closed (take (suc k) tokens)) % 2 ^ 64 ≡ (k + 1 + n) % 2 ^ 64) (sym more) put in
    subst (λ n. ((sum + change) % 2 ^ 64 + closed (take n tokens)) % 2 ^ 64 ≡ (k + 1 + opened (take n tokens)) % 2 ^ 64) next both

pub returns : goal.returns
returns c = λ same.
    let all : length c.args.tokens.now ≤ c.loop-k.k = omega arith in
    let few : c.loop-k.k ≤ length c.args.tokens.now = omega arith in
    sum_all c.args.tokens.now c.loop-k.k c.loop-k.sum all few (omega arith) (eqb-true c.loop-k.sum (length c.args.tokens.now) same) c.loop-k.invariant
