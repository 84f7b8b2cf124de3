-- What was made is pushed, and what is left is found in the text that was pushed. The error of the
-- steps is that of the command.
use Rattle.std.proofs.Common.{◌≡◌, ◌∙◌, List, ℕ, Result, Err, ap, sym, subst, rules, IfOk}
use Rattle.tf_session.specs.declared.command.Command.TheVariants.{Fix}
use Rattle.tf_session.specs.declared.command.Done.{Done}
use Rattle.tf_session.specs.declared.command.Fault.{Fault}
use Rattle.tf_session.specs.Inner.Faults.{fault_of_fix}
use Rattle.tf_session.specs.Records.{DoesStep}
use Rattle.tf_session.specs.Rewrites.{RefusesText}
use Rattle.tf_session.specs.Session.{contents_of, text_of, records_of}
use Rattle.tf_session.proofs.PushChange.{MakesOf, push_fix}
use Rattle.tf_session.proofs.ReadTexts.{refused_fix}
use Rattle.tf_lint.specs.FixResult.{changed_text}
use Rattle.tf_lint.specs.Remaining.{remaining_count, IsRemaining}
use Rattle.tf_session.proofs.session.Session.fix.Goals as goal

pub returns-in-Ok-clause-done : goal.returns-in-Ok-clause-done
returns-in-Ok-clause-done c =
    let made = c.in_ok-change.field-0 in
    let counted : c.len.result ≡ remaining_count made.left = search rules in
    let makes = subst (MakesOf (Fix c.args.rules) c.as_slice.result.now made.change made.fixed) (sym counted) c.in_ok-change.ensures.made in
    let does = push_fix c.args.rules c.as_slice.result.now (text_of c.args.self.now) (records_of c.args.self.now) made.change made.fixed c.len.result c.push_change.result (text_of c.push_change.new.self) (records_of c.push_change.new.self)
    c.as_slice.ensures.value makes c.in_ok-change.ensures.transforms c.push_change.ensures.replied c.push_change.ensures.pushed c.push_change.ensures.added in
    subst (λ (r : Result Done Fault). IfOk r (λ (d : Done). DoesStep (Fix c.args.rules) (contents_of c.args.self.now) d (contents_of c.push_change.new.self))) c.in-Ok.is does

pub returns-in-Ok-clause-left : goal.returns-in-Ok-clause-left
returns-in-Ok-clause-left c =
    let made = c.in_ok-change.field-0 in
    let remains = subst (λ (t : List ℕ). IsRemaining c.args.rules (changed_text t made.change) made.left) c.as_slice.ensures.value c.in_ok-change.ensures.left in
    subst (λ (t : List ℕ). IsRemaining c.args.rules t made.left) (sym c.in-Ok.ensures.pushed) remains

pub returns-in_err-change-clause-refused : goal.returns-in_err-change-clause-refused
returns-in_err-change-clause-refused c =
    let why = c.in_err-change.field-0.0 in
    let answer : c.from_residual.result ≡ Err (fault_of_fix why) = search rules in
    rw answer (subst (λ (t : List ℕ). RefusesText (Fix c.args.rules) t (fault_of_fix why)) c.as_slice.ensures.value
    (refused_fix c.args.rules c.as_slice.result.now why c.in_err-change.ensures.fault))

pub returns-in-Ok-clause-counted : goal.returns-in-Ok-clause-counted
returns-in-Ok-clause-counted c =
    let made = c.in_ok-change.field-0 in
    let counted : c.len.result ≡ remaining_count made.left = search rules in
    ap (λ (d : Done). d.left) c.in-Ok.ensures.replied ∙ counted
