use Rattle.std.proofs.Common.{◌∙◌, sym}
use Rattle.tf_findings.proofs.AnnotationLemmas.{order_left, same_left, nat_lt_is}
use Rattle.tf_findings.proofs.silencing.unsilenced.annotations_from.Goals as goal

pub loop-annotation-preserved : goal.loop-annotation-preserved
loop-annotation-preserved c =
    let rest = c.loop-annotation.rest.now in
    let others = c.in-Some.others.now in
    let is = c.in-Some.ensures.cases.0 in
    let past = nat_lt_is _ _ (sym c.is_out_of_reach.ensures ∙ c.if-not-is_out_of_reach.false) in
    record {
      order = order_left rest others c.in-Some.annotation.now is c.loop-annotation.invariant.order;
      same = λ rule at le. same_left rule c.args.line at rest others c.in-Some.annotation.now is past le ∙ c.loop-annotation.invariant.same rule at le;
    }
