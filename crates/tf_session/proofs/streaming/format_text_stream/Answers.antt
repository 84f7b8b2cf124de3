-- A fmt refuses the whole text, or not all of its layout goes out.
use Rattle.std.proofs.Common.{◌≡◌, Err, rules}
use Rattle.tf_session.specs.declared.command.Command.TheVariants.{Fmt}
use Rattle.tf_session.specs.Faults.{run_fault_of}
use Rattle.tf_session.proofs.Refusing.{not_stepped}
use Rattle.tf_session.proofs.streaming.format_text_stream.Goals as goal

pub returns-in_err-new-clause-fault : goal.returns-in_err-new-clause-fault
returns-in_err-new-clause-fault g c =
    let refusal = c.in_err-new.field-0.0 in
    let answer : c.from_residual-in_err-new.result ≡ Err (run_fault_of refusal) = search rules in
    rw answer (not_stepped Fmt refusal _ _ c.in_ok-bytes.bytes.items (search rules) (search rules) (search rules))
