-- The fix is done, and its lines are there.
use Rattle.std.proofs.Common.{◌≡◌, ◌∙◌, Err, List, ℕ, refl, rules, subst, sym}
use Rattle.std.specs.Prelude.{string_bytes}
use Rattle.tf_lint.specs.FixResult.{fixed_text_or}
use Rattle.tf_lint.specs.Remaining.{IsRemaining}
use Rattle.tf_lint.specs.Steps.{IsReport}
use Rattle.tf_session.specs.Session.{with_records, without_records}
use Rattle.tf_session.specs.declared.fault.RunFault.{RunFault}
use Rattle.tf_program.proofs.Fixing.{no_lines, outcome_is}
use Rattle.tf_program.proofs.answer.Answer.of_fix.Goals as goal

pub returns-in_err-lines-clause-fault : goal.returns-in_err-lines-clause-fault
returns-in_err-lines-clause-fault c =
    let made = fixed_text_or c.args.text.now c.in_ok-output.output in
    let (records, does) = c.in_ok-output.ensures.done in
    let answer : c.from_residual-in_err-lines.result ≡ Err RunFault.Memory = search rules in
    rw answer (no_lines c.args.rules (without_records c.args.text.now) c.in_ok-output.done (with_records made records) does)

pub returns-clause-answer : goal.returns-clause-answer
returns-clause-answer c =
    let made = fixed_text_or c.args.text.now c.in_ok-output.output in
    let (records, does) = c.in_ok-output.ensures.done in
    let here : c.text_or-new.result.now ≡ made = c.text_or-new.ensures in
    let remains = subst (λ (t : List ℕ). IsRemaining c.args.rules t c.in_ok-output.left) (sym here) c.in_ok-output.ensures.left in
    let (reported, report, lines) = c.in_ok-lines.ensures.lines c.args.rules remains in
    let there = subst (λ (t : List ℕ). IsReport c.args.rules t reported) here report in
    let bytes : c.into_bytes.result.items ≡ string_bytes c.in_ok-lines.lines = search rules in
    let outcome = outcome_is c.from_issue_count.result c.in_ok-output.done.left c.from_issue_count.ensures.none c.from_issue_count.ensures.some in
    (c.in_ok-output.done, with_records made records, (does, (reported, there, bytes ∙ lines)), refl, outcome)
