use Rattle.std.proofs.Common.{◌≡◌, ◌-◌, ◌∙◌, suc, false, slice_get, ap, sym, arith}
use Rattle.hcl_explain.specs.Openings.{opens, closes}
use Rattle.hcl_explain.proofs.OpeningsLemmas.{at_other}
use Rattle.hcl_explain.proofs.openings.innermost_open.Goals as goal

pub loop-i-preserved : goal.loop-i-preserved
loop-i-preserved c =
    let j = c.loop-i.i in
    let i = c.loop-i.i - 1 in
    let follows : j ≡ suc i = omega arith in
    let other : opens c.kind-kind.result ≡ false = cc in
    let neither : closes c.kind-kind.result ≡ false = cc in
    let same = at_other c.args.scanned.now.pairs j i c.kind-kind.result follows
    c.kind-kind.ensures other neither in
    record {
      within = omega arith;
      opened = ap (λ o. slice_get o c.loop-i.closed) (sym same) ∙ c.loop-i.invariant.opened;
    }
