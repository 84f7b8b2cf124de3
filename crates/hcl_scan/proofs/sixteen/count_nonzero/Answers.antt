use Rattle.std.proofs.Common.{eqb, sym, ap, ◌∙◌, arith, w8}
use lib.Count.{count_trailing_zeros}
use Rattle.std.proofs.lemmas.Simd.{bitmask_splat, leading_from_mask_l, trailing_mask_l}
use Rattle.hcl_scan.proofs.sixteen.count_nonzero.Goals as goal

pub returns-then-zeros-eq0 : goal.returns-then-zeros-eq0
returns-then-zeros-eq0 c =
    let zeros = bitmask_splat w8 eqb c.args.v 16 0 c.requires (omega arith) in
    sym (leading_from_mask_l (λ x. eqb x 0) c.args.v (sym zeros ∙ c.if-zeros-eq0.true) ∙ c.requires)

pub returns-else-zeros-eq0 : goal.returns-else-zeros-eq0
returns-else-zeros-eq0 c =
    let zeros = bitmask_splat w8 eqb c.args.v 16 0 c.requires (omega arith) in
    ap (count_trailing_zeros 64) zeros ∙ trailing_mask_l (λ x. eqb x 0) 64 c.args.v (omega arith) (omega arith)
