use Rattle.std.proofs.Common.{◌≡◌, ◌+◌, ◌∙◌, ℕ, subst, sym, arith}
use Rattle.tf_findings.specs.Inner.NextComment.{IsNoComment, AreNoComments, HasComment}
use Rattle.tf_findings.proofs.NextCommentLemmas.{none_more, some_inj, both_hold, has_more}
use Rattle.tf_findings.proofs.next_comment.is_free_block.Goals as goal

pub loop-i-preserved : goal.loop-i-preserved
loop-i-preserved c =
    let pairs = c.args.scanned.now.pairs in
    let from = c.args.from in
    let i = c.loop-i.i in
    let next : from + i + 1 ≡ from + (i + 1) = omega arith in
    record {
      free = λ h.
          let b = both_hold c.loop-i.is_free c.is_comment_kind.result h in
          subst (λ (n : ℕ). AreNoComments pairs from n) next
          (none_more pairs from (from + i) (c.loop-i.invariant.free b.0) (λ kind is. subst IsNoComment (some_inj c.kind.result kind (c.kind.ensures ∙ sym is)) (c.is_comment_kind.ensures.none b.1)));
      comment = λ h.
          subst (λ (n : ℕ). HasComment pairs from n) next
          (has_more pairs from (from + i) c.kind.result c.loop-i.is_free c.is_comment_kind.result h (omega arith) c.loop-i.invariant.comment c.kind.ensures (sym c.is_comment_kind.ensures.value));
    }
