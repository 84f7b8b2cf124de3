use Rattle.std.proofs.Common.{sym, ◌∙◌}
use Rattle.tf_findings.proofs.AnnotationLemmas.{silenced_after}
use Rattle.tf_findings.proofs.silencing.unsilenced.is_silenced_by.Goals as goal

pub returns-else-covers : goal.returns-else-covers
returns-else-covers c =
    silenced_after c.args.rule c.args.line c.args.annotations.now c.in-Some.others.now c.in-Some.annotation.now _ c.in-Some.ensures.cases.0 c.requires
    (sym c.covers.ensures ∙ c.if-covers.false) c.first_covers.ensures
