use Rattle.std.proofs.Common.{◌≡◌, ◌+◌, ℕ, subst, arith}
use Rattle.tf_findings.specs.Inner.NextComment.{AreNoComments}
use Rattle.tf_findings.proofs.NextCommentLemmas.{none_joined, comment_or_end}
use Rattle.tf_findings.proofs.next_comment.next_comment.Goals as goal

pub returns-clause-none : goal.returns-clause-none
returns-clause-none c =
    let pairs = c.args.scanned.now.pairs in
    let from = c.args.from in
    let near = from + c.min.result in
    let end : c.first_comment-first.result ≡ near = omega (arith, c.if-first-near.false, c.first_comment-first.ensures.within) in
    let first = subst (λ (n : ℕ). AreNoComments pairs from n) end c.first_comment-first.ensures.none in
    let start = c.past_blocks-start.result in
    none_joined pairs from start c.first_comment.result (none_joined pairs from near start first c.past_blocks-start.ensures.none) c.first_comment.ensures.none

pub returns-clause-comment : goal.returns-clause-comment
returns-clause-comment c =
    let pairs = c.args.scanned.now.pairs in
    comment_or_end pairs c.first_comment.result (λ within. c.first_comment.ensures.comment (omega (arith, within, c.len-count.ensures.value)))
