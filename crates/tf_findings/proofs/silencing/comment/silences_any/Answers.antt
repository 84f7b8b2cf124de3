use Rattle.std.proofs.Common.{ap, sym, ◌∙◌}
use Rattle.tf_findings.specs.Inner.Annotations.{option_has}
use Rattle.tf_findings.proofs.silencing.comment.silences_any.Goals as goal

pub returns-in-None : goal.returns-in-None
returns-in-None c = λ rule _. sym (c.silenced_rules.ensures rule) ∙ ap (λ o. option_has o rule) c.in-None.is
