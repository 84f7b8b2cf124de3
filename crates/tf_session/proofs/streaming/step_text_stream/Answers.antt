-- The command is done on the whole text, with no record before it, or refuses it.
use Rattle.std.proofs.Common.{◌≡◌, Err, inr, rules, arith}
use Rattle.std.proofs.lemmas.Grind.{common_steps}
use Rattle.tf_session.specs.Faults.{run_fault_of}
use Rattle.tf_session.specs.Session.{contents_of, text_of, records_of}
use Rattle.tf_session.proofs.Refusing.{not_stepped, steps_alone, refuses_alone}
use Rattle.tf_session.proofs.streaming.step_text_stream.Goals as goal

pub returns-in_err-done-clause-fault : goal.returns-in_err-done-clause-fault
returns-in_err-done-clause-fault g c =
    let refusal = c.in_err-done.field-0.0 in
    let answer : c.from_residual-in_err-done.result ≡ Err (run_fault_of refusal) = search rules in
    let why = refuses_alone c.args.command (contents_of c.start-session.result) c.in_ok-bytes.bytes.items refusal (search rules) (search rules) (search rules) in
    rw answer (not_stepped c.args.command refusal _ _ c.in_ok-bytes.bytes.items (search rules) why (search rules))

-- the session that was started has this text and no record
pub returns-in-Ok-clause-done : goal.returns-in-Ok-clause-done
returns-in-Ok-clause-done g c = first_of (search rules, search (rules, steps_alone), grind (arith, common_steps))

pub returns-in-Err-clause-fault : goal.returns-in-Err-clause-fault
returns-in-Err-clause-fault g c =
    let does = steps_alone c.args.command (contents_of c.start-session.result) c.in_ok-bytes.bytes.items c.in_ok-done.done (contents_of c.step.new.self) (search rules) (search rules) (search rules) in
    inr (inr (c.in_ok-bytes.bytes.items, text_of c.step.new.self, search rules, (c.in_ok-done.done, records_of c.step.new.self, does), search rules))
