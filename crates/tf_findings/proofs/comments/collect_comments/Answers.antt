use Rattle.std.proofs.Common.{◌<◌, ◌++◌, ◌||◌, ◌+◌, length, drop, ap, sym, ◌∙◌, arith}
use Rattle.tf_findings.proofs.AnnotationLemmas.{or_assoc}
use Rattle.tf_findings.proofs.CommentLemmas.{found_step, increase_more}
use Rattle.tf_findings.proofs.LineLemmas.{silenced_step}
use Rattle.tf_findings.proofs.NextCommentLemmas.{comments_continue}
use Rattle.tf_findings.specs.Silencing.{silenced_from}
use Rattle.tf_findings.specs.Inner.Annotations.{silences_among}
use Rattle.tf_findings.proofs.comments.collect_comments.Goals as goal

pub loop-i-init : goal.loop-i-init
loop-i-init c =
    let pairs = c.args.scanned.now.pairs in
    let on = comments_continue pairs 0 c.next_comment-i.result c.next_comment-i.ensures.later c.next_comment-i.ensures.within c.next_comment-i.ensures.none in
    record {
      within = c.next_comment-i.ensures.within;
      found = ap (λ l. c.args.found.now.items ++ l) (sym (on.found c.args.rules));
      order = rw c.new-silencing_tokens.ensures.items (omega arith);
      silence = λ rule line.
          let rest = silenced_from pairs rule line c.next_comment-i.result (drop c.next_comment-i.result pairs) in
          ap (λ ns. silences_among pairs rule line ns || rest) c.new-silencing_tokens.ensures.items ∙ sym (on.silence rule line);
    }

pub loop-i-preserved : goal.loop-i-preserved
loop-i-preserved c =
    let pairs = c.args.scanned.now.pairs in
    let i = c.loop-i.i in
    let next = c.next_comment-i-in-loop-i.result in
    let within : i < length pairs = omega (arith, c.loop-i-test.true, c.len.ensures.value) in
    let on = comments_continue pairs (i + 1) next c.next_comment-i-in-loop-i.ensures.later c.next_comment-i-in-loop-i.ensures.within c.next_comment-i-in-loop-i.ensures.none in
    let new = c.collect_comment.new.found.items in
    record {
      within = c.next_comment-i-in-loop-i.ensures.within;
      found = ap (λ l. new ++ l) (sym (on.found c.args.rules)) ∙ found_step c.args.rules pairs i c.loop-i.found.items _ _ within c.in_ok-collect_comment.ensures.found c.loop-i.invariant.found;
      order = increase_more 0 c.collect_comment.new.silencing_tokens.items (i + 1) next c.in_ok-collect_comment.ensures.order c.next_comment-i-in-loop-i.ensures.later;
      silence = λ rule line.
          let rest = silenced_from pairs rule line (i + 1) (drop (i + 1) pairs) in
          let old = silences_among pairs rule line c.loop-i.silencing_tokens.items in
          let now = silences_among pairs rule line c.collect_comment.new.silencing_tokens.items in
          ap (λ b. now || b) (sym (on.silence rule line))
          ∙ ap (λ b. b || rest) (c.in_ok-collect_comment.ensures.silence rule line)
          ∙ (or_assoc old _ rest ∙ (ap (λ b. old || b) (sym (silenced_step pairs rule line i within)) ∙ c.loop-i.invariant.silence rule line));
    }
