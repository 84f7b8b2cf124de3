use Rattle.std.proofs.Common.{◌||◌, ◌+◌, ap, sym, ◌∙◌, arith}
use Rattle.tf_findings.proofs.CommentLemmas.{increase_more, increase_pushed, among_pushed}
use Rattle.tf_findings.proofs.LineLemmas.{quiet_spelling}
use Rattle.tf_findings.proofs.AnnotationLemmas.{or_false}
use Rattle.tf_findings.specs.Inner.Annotations.{silences_among}
use Rattle.tf_findings.proofs.comments.collect_comment.Goals as goal

pub returns-then-not-silences_any-clause-order : goal.returns-then-not-silences_any-clause-order
returns-then-not-silences_any-clause-order c = increase_more 0 c.args.silencing_tokens.now.items c.args.i (c.args.i + 1) c.requires.order (omega arith)

pub returns-then-not-silences_any-clause-silence : goal.returns-then-not-silences_any-clause-silence
returns-then-not-silences_any-clause-silence c = λ rule line.
    let none = quiet_spelling c.args.scanned.now.pairs rule line c.args.i c.kind.result c.spelling.result.now c.kind.ensures c.spelling.ensures.value
    (c.silences_any.ensures rule c.if-not-silences_any.true) in
    let old = silences_among c.args.scanned.now.pairs rule line c.args.silencing_tokens.now.items in
    sym (ap (λ b. old || b) none ∙ or_false old)

pub returns-clause-order : goal.returns-clause-order
returns-clause-order c = increase_pushed c.args.silencing_tokens.now.items c.push.new.self.items c.args.i c.in_ok-push.ensures.items c.requires.order

pub returns-clause-silence : goal.returns-clause-silence
returns-clause-silence c = λ rule line. among_pushed c.args.scanned.now.pairs rule line c.args.silencing_tokens.now.items c.push.new.self.items c.args.i c.in_ok-push.ensures.items
