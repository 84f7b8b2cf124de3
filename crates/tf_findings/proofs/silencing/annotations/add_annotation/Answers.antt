use Rattle.std.proofs.Common.{◌++◌, ap, subst, sym, ◌∙◌}
use Rattle.std.specs.Option.{option_to_list}
use Rattle.tf_findings.proofs.AnnotationLemmas.{ok_map, put_in, put_after}
use Rattle.tf_findings.specs.Inner.Annotations.{AreLinesIncreasing}
use Rattle.tf_findings.proofs.silencing.annotations.add_annotation.Goals as goal

pub returns-then-last-annotation-clause-after : goal.returns-then-last-annotation-clause-after
returns-then-last-annotation-clause-after c =
    let leading = c.pop.new.self.items in
    let was = c.pop.ensures.items ∙ ap (λ o. leading ++ option_to_list o) c.in-Some.is in
    let line = c.merge.ensures.line ∙ c.if-last-annotation.true in
    ok_map _ (λ is. subst (λ n. AreLinesIncreasing 0 c.push_annotation-then-last-annotation.new.annotations.items n) line
    (put_in c.args.annotations.now.items leading c.push_annotation-then-last-annotation.new.annotations.items c.in-Some.last c.merge.result was
    (subst (λ n. AreLinesIncreasing 0 c.args.annotations.now.items n) (sym line) c.requires.before) (sym c.merge.ensures.line) is))
    c.push_annotation-then-last-annotation.ensures

pub returns-in_ok-push_annotation-in-Some-clause-after : goal.returns-in_ok-push_annotation-in-Some-clause-after
returns-in_ok-push_annotation-in-Some-clause-after c =
    let leading = c.pop.new.self.items in
    let was = c.pop.ensures.items ∙ ap (λ o. leading ++ option_to_list o) c.in-Some.is in
    ok_map _ (λ is. put_after c.args.annotations.now.items leading c.push_annotation-in-Some.new.annotations.items c.push_annotation-in-Some-2.new.annotations.items c.in-Some.last c.args.annotation was
    c.requires.before c.if-last-annotation.false c.in_ok-push_annotation-in-Some.ensures is)
    c.push_annotation-in-Some-2.ensures
