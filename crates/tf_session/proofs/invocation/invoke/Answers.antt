-- The session is made of the two texts, as they were read; what the step does to it, or why it
-- refuses, is what the command does to these.
use Rattle.std.proofs.Common.{◌≡◌, Err, rules, refl, inl, inr}
use Rattle.edit_record.specs.Text.{IsJournalText}
use Rattle.tf_session.specs.Session.{SessionContents, contents_of, text_of}
use Rattle.tf_session.specs.Records.{DoesStep}
use Rattle.tf_session.specs.Invocations.{StepOrLinesFault}
use Rattle.tf_session.specs.Faults.{run_fault_of_record}
use Rattle.tf_session.proofs.Contents.{with_same}
use Rattle.tf_session.proofs.OneInvocation.{effect_steps, fault_steps}
use Rattle.tf_session.proofs.Saving.{lines_are, made, not_made}
use Rattle.tf_session.proofs.invocation.invoke.Goals as goal

pub returns-in-Ok-clause-effect : goal.returns-in-Ok-clause-effect
returns-in-Ok-clause-effect c =
    let report = c.in-Ok.report in
    let new = contents_of c.report_step.new.session in
    let is : IsJournalText c.args.journal.items c.in_ok-journal.journal = search rules in
    let text : text_of c.start-session.result ≡ c.args.text.now.items = search rules in
    let does = with_same (λ (x : SessionContents). DoesStep c.args.command x report.done new) _ _ _ _ text c.start-session.ensures.journal c.in-Ok.ensures.done in
    made c.args.command c.args.name.now c.args.text.now.items c.args.journal.items c.in_ok-journal.journal report.done report.lines.items new c.to_effect.result
    is does c.in-Ok.ensures.lines c.to_effect.ensures.done (lines_are report.lines c.to_effect.result c.to_effect.ensures.lines) c.to_effect.ensures.saved

pub returns-in-Ok-clause-fault : goal.returns-in-Ok-clause-fault
returns-in-Ok-clause-fault c =
    let report = c.in-Ok.report in
    let new = contents_of c.report_step.new.session in
    let is : IsJournalText c.args.journal.items c.in_ok-journal.journal = search rules in
    let text : text_of c.start-session.result ≡ c.args.text.now.items = search rules in
    let does = with_same (λ (x : SessionContents). DoesStep c.args.command x report.done new) _ _ _ _ text c.start-session.ensures.journal c.in-Ok.ensures.done in
    not_made c.args.command c.args.name.now c.args.text.now.items c.args.journal.items c.in_ok-journal.journal report.done new c.to_effect.result
    is does c.to_effect.ensures.changed c.to_effect.ensures.fault

pub returns-in-Err-clause-fault : goal.returns-in-Err-clause-fault
returns-in-Err-clause-fault c =
    let is : IsJournalText c.args.journal.items c.in_ok-journal.journal = search rules in
    let text : text_of c.start-session.result ≡ c.args.text.now.items = search rules in
    let why = with_same (λ (x : SessionContents). StepOrLinesFault c.args.command x c.in-Err.fault) _ _ _ _ text c.start-session.ensures.journal c.in-Err.ensures.fault in
    inr (inl (c.in_ok-journal.journal, is, why))

pub returns-in-Ok-clause-done : goal.returns-in-Ok-clause-done
returns-in-Ok-clause-done c = effect_steps c.text_is_unambiguous.ensures c.change_result_is_unique.ensures c.args.command c.args.name.now c.args.text.now.items c.args.journal.items c.to_effect.result (returns-in-Ok-clause-effect c)

pub returns-in-Ok-clause-refused : goal.returns-in-Ok-clause-refused
returns-in-Ok-clause-refused c = fault_steps c.text_is_unambiguous.ensures c.change_result_is_unique.ensures c.args.command c.args.text.now.items c.args.journal.items c.to_effect.result (returns-in-Ok-clause-fault c)

pub returns-in-Err-clause-refused : goal.returns-in-Err-clause-refused
returns-in-Err-clause-refused c = fault_steps c.text_is_unambiguous.ensures c.change_result_is_unique.ensures c.args.command c.args.text.now.items c.args.journal.items (Err c.in-Err.fault) (returns-in-Err-clause-fault c)

pub returns-in_err-journal-clause-refused : goal.returns-in_err-journal-clause-refused
returns-in_err-journal-clause-refused c =
    let fault = c.in_err-journal.field-0.0 in
    let answer : c.from_residual.result ≡ Err (run_fault_of_record fault) = search rules in
    rw answer (fault_steps c.text_is_unambiguous.ensures c.change_result_is_unique.ensures c.args.command c.args.text.now.items c.args.journal.items (Err (run_fault_of_record fault)) (inl (fault, refl, c.in_err-journal.ensures)))
