use Rattle.std.proofs.Common.{ap, ◌∙◌}
use Rattle.tf_findings.specs.Comments.{comment_body}
use Rattle.tf_findings.specs.Inner.ByteCounts.{body_silences}
use Rattle.tf_findings.proofs.CommentForms.{silences_by_words}
use Rattle.tf_findings.proofs.silencing.comment.silenced_rules.Goals as goal

pub returns : goal.returns
returns c = λ rule.
    c.body_rules.ensures rule
    ∙ (ap (body_silences rule) c.comment_body.ensures
    ∙ silences_by_words rule (comment_body c.args.kind c.args.spelling.now))
