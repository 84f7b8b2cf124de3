use Rattle.std.proofs.Common.{◌≡◌, ◌∙◌, ℕ, subst, sym, arith}
use Rattle.tf_findings.specs.Inner.NextComment.{IsNoComment, AreNoComments}
use Rattle.tf_findings.proofs.NextCommentLemmas.{none_more, some_inj}
use Rattle.tf_findings.proofs.next_comment.first_comment.Goals as goal

pub loop-i-preserved : goal.loop-i-preserved
loop-i-preserved c =
    none_more c.args.scanned.now.pairs c.args.from c.loop-i.i c.loop-i.invariant (λ kind is. subst IsNoComment (some_inj c.kind.result kind (c.kind.ensures ∙ sym is)) (c.is_comment_kind.ensures.none c.if-is_comment_kind.false))

pub returns-clause-none : goal.returns-clause-none
returns-clause-none c =
    let end : c.loop-i.i ≡ c.args.to = omega (arith, c.loop-i-test.false, c.loop-i.auto.i-end c.requires.order) in
    subst (λ (n : ℕ). AreNoComments c.args.scanned.now.pairs c.args.from n) end c.loop-i.invariant
