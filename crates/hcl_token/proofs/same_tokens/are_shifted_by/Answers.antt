use Rattle.std.proofs.Common.{◌↔◌, IsTrue, get_or, refl, subst₂, arith}
use Rattle.hcl_token.specs.Inner.SameTokens.{none, IsWordShiftedBy}
use Rattle.hcl_token.proofs.SameTokensLemmas.{found_at, and_more}
use Rattle.hcl_token.proofs.same_tokens.are_shifted_by.Goals as goal

pub loop-k-init : goal.loop-k-init
loop-k-init c = (λ _ m h. absurd (omega arith), λ _. refl)

pub loop-k-preserved : goal.loop-k-preserved
loop-k-preserved c =
    let tokens = c.args.tokens.now in
    let others = c.args.others.now in
    let token = found_at tokens c.loop-k.k _ c.index-tokens-k.is (omega arith) in
    let other = found_at others c.loop-k.k _ c.index-others-k.is (omega arith) in
    and_more (λ m. IsWordShiftedBy c.args.shift (get_or tokens m none) (get_or others m none)) c.loop-k.k c.loop-k.are_shifted c.is_shifted_by-are_shifted.result c.loop-k.invariant
    (subst₂ (λ x y. IsTrue c.is_shifted_by-are_shifted.result ↔ IsWordShiftedBy c.args.shift x y) token other c.is_shifted_by-are_shifted.ensures)

pub returns : goal.returns
returns c = (λ h k inside. c.loop-k.invariant.0 h k (omega arith), λ all. c.loop-k.invariant.1 (λ k inside. all k (omega arith)))
