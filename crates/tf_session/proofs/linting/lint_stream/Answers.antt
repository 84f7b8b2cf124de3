-- The whole text is refused.
use Rattle.std.proofs.Common.{◌≡◌, Err, rules}
use Rattle.tf_session.specs.Faults.{run_fault_of}
use Rattle.tf_session.proofs.Refusing.{not_linted}
use Rattle.tf_session.proofs.linting.lint_stream.Goals as goal

pub returns-in_err-lines-clause-fault : goal.returns-in_err-lines-clause-fault
returns-in_err-lines-clause-fault g c =
    let refusal = c.in_err-lines.field-0.0 in
    let answer : c.from_residual-in_err-lines.result ≡ Err (run_fault_of refusal) = search rules in
    rw answer (not_linted c.args.name.now c.args.rules refusal _ _ c.in_ok-bytes.bytes.items (search rules) (search rules) (search rules))
