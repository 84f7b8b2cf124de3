-- What the command made, or why it made nothing, is kept.
use Rattle.std.proofs.Common.{◌∙◌, refl, subst, sym}
use Rattle.tf_session.specs.Invocations.{HasNoEffect}
use Rattle.tf_session.specs.declared.fault.RunFault.{RunFault}
use Rattle.tf_program.proofs.Fixing.{outcome_is}
use Rattle.tf_program.proofs.Refusing.{located_in_file}
use Rattle.tf_program.proofs.files.change_read.Goals as goal

pub returns-in-Ok : goal.returns-in-Ok
returns-in-Ok g c =
    let effect = c.in-Ok.field-0 in
    let outcome = outcome_is c.from_issue_count.result effect.done.left c.from_issue_count.ensures.none c.from_issue_count.ensures.some in
    (effect, c.in-Ok.ensures.effect, (outcome, refl, c.to_save.ensures))

pub returns-in-Err : goal.returns-in-Err
returns-in-Err g c = (
  subst (λ (fault : RunFault). HasNoEffect c.args.work.command c.args.read.text.items c.args.read.journal.items fault) (sym c.of_refused.ensures.fault) c.in-Err.ensures.fault,
  located_in_file c.args.read.text.items c.deref.result.now c.args.locate _ c.of_refused.result c.of_refused.ensures.fault (λ within. c.deref.ensures.value ∙ c.in-Err.ensures.text within) c.of_refused.ensures.location,
)
