-- A token that is no `<` for a value is passed.
use Rattle.std.proofs.Common.{◌≡◌, ◌-◌, ◌∙◌, suc, sym, arith}
use Rattle.hcl_explain.proofs.HeredocLemmas.{passed}
use Rattle.hcl_explain.proofs.heredoc.less_before.Goals as goal

pub loop-k-preserved : goal.loop-k-preserved
loop-k-preserved c =
    let follows : c.loop-k.k ≡ suc (c.loop-k.k - 1) = omega arith in
    passed c.args.scanned.now.pairs c.loop-k.k (c.loop-k.k - 1) follows
    (sym c.is_less_for_value.ensures ∙ c.if-is_less_for_value.false)
    ∙ c.loop-k.invariant
