use Rattle.std.proofs.Common.{not, eqb, sym, ap, ◌∙◌, arith, w8}
use lib.Count.{count_trailing_zeros}
use lib.Lanes.{chunk}
use Rattle.std.proofs.lemmas.List.Sums.{prefix_len-le-length}
use Rattle.std.proofs.lemmas.Simd.{length-chunk, bitmask_splat, leading_from_mask_l, trailing_mask_l}
use Rattle.hcl_scan.proofs.FlagLemmas.{spaces_before}
use Rattle.hcl_scan.proofs.sixteen.count_spaces.Goals as goal

pub returns-then-others-eq0-clause-spaces : goal.returns-then-others-eq0-clause-spaces
returns-then-others-eq0-clause-spaces c = λ k from to.
    let v = chunk c.args.at 16 c.args.text.now in
    let long = length-chunk c.args.at 16 c.args.text.now c.requires in
    let others = bitmask_splat w8 (λ a b. not (eqb a b)) v 16 32 long (omega arith) in
    let count = sym (leading_from_mask_l (λ x. not (eqb x 32)) v (sym others ∙ c.if-others-eq0.true) ∙ long) in
    spaces_before c.args.text.now c.args.at 16 c.requires count k from to

pub returns-else-others-eq0-clause-within : goal.returns-else-others-eq0-clause-within
returns-else-others-eq0-clause-within c =
    let v = chunk c.args.at 16 c.args.text.now in
    let long = length-chunk c.args.at 16 c.args.text.now c.requires in
    let others = bitmask_splat w8 (λ a b. not (eqb a b)) v 16 32 long (omega arith) in
    let count = ap (count_trailing_zeros 64) others ∙ trailing_mask_l (λ x. not (eqb x 32)) 64 v (omega arith) (omega arith) in
    omega (arith, count, long, prefix_len-le-length (λ x. not (not (eqb x 32))) v)

pub returns-else-others-eq0-clause-spaces : goal.returns-else-others-eq0-clause-spaces
returns-else-others-eq0-clause-spaces c = λ k from to.
    let v = chunk c.args.at 16 c.args.text.now in
    let long = length-chunk c.args.at 16 c.args.text.now c.requires in
    let others = bitmask_splat w8 (λ a b. not (eqb a b)) v 16 32 long (omega arith) in
    let count = ap (count_trailing_zeros 64) others ∙ trailing_mask_l (λ x. not (eqb x 32)) 64 v (omega arith) (omega arith) in
    spaces_before c.args.text.now c.args.at _ c.requires count k from to
