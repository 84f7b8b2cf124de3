use Rattle.std.proofs.Common.{◌<◌, ◌||◌, ◌+◌, length, drop, slice_index_or, ap, sym, ◌∙◌, arith}
use Rattle.tf_findings.proofs.CommentLemmas.{among_next, line_rises, increase_next, increase_within}
use Rattle.tf_findings.proofs.LineLemmas.{line_next}
use Rattle.tf_findings.proofs.AnnotationLemmas.{lines_increase_more, or_assoc}
use Rattle.tf_findings.specs.Inner.Annotations.{is_silenced_by, silences_at, silences_among}
use Rattle.tf_findings.proofs.silencing.annotations.annotations_of.Goals as goal

pub add_comment_annotation-requires-clause-within : goal.add_comment_annotation-requires-clause-within
add_comment_annotation-requires-clause-within c =
    let (next, rise, ascend) = c.loop-i.invariant.order in
    let numbers = c.args.silencing_tokens.now in
    let at = increase_next numbers c.loop-i.i-index next (length c.args.scanned.now.pairs) (omega (arith, c.loop-i-test.true)) rise in
    omega (arith, increase_within _ _ _ at.1)

pub add_comment_annotation-requires-clause-before : goal.add_comment_annotation-requires-clause-before
add_comment_annotation-requires-clause-before c =
    let (next, rise, ascend) = c.loop-i.invariant.order in
    let at = increase_next c.args.silencing_tokens.now c.loop-i.i-index next (length c.args.scanned.now.pairs) (omega (arith, c.loop-i-test.true)) rise in
    lines_increase_more 0 _ _ _ ascend (line_rises c.args.scanned.now.pairs next _ at.0)

pub loop-i-preserved : goal.loop-i-preserved
loop-i-preserved c =
    let pairs = c.args.scanned.now.pairs in
    let numbers = c.args.silencing_tokens.now in
    let i = c.loop-i.i-index in
    let within : i < length numbers = omega (arith, c.loop-i-test.true) in
    let (next, rise, ascend) = c.loop-i.invariant.order in
    let at = increase_next numbers i next (length pairs) within rise in
    let token = slice_index_or numbers i 0 in
    record {
      lines = c.in_ok-add_comment_annotation.ensures.lines ∙ c.loop-i.invariant.lines;
      order = (token + 1, at.1, lines_increase_more 0 _ _ _ c.in_ok-add_comment_annotation.ensures.after (line_next pairs token));
      hit = λ rule line.
          let rest = silences_among pairs rule line (drop (i + 1) numbers) in
          let old = is_silenced_by rule line c.loop-i.annotations.items in
          ap (λ b. b || rest) (c.in_ok-add_comment_annotation.ensures.silenced rule line)
          ∙ (or_assoc old (silences_at pairs rule line token) rest
          ∙ (ap (λ b. old || b) (sym (among_next pairs rule line numbers i within)) ∙ c.loop-i.invariant.hit rule line));
    }
