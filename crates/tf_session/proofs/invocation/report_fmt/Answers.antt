-- Memory ran out for the name of a file whose text a fmt changed.
use Rattle.std.proofs.Common.{◌≡◌, Err, true, rules, refl, inr}
use Rattle.tf_session.specs.declared.fault.RunFault.TheVariants.{Memory}
use Rattle.tf_session.specs.Session.{contents_of}
use Rattle.tf_session.proofs.invocation.report_fmt.Goals as goal

pub returns-in_err-line-clause-fault : goal.returns-in_err-line-clause-fault
returns-in_err-line-clause-fault c =
    let answer : c.from_residual-in_err-line.result ≡ Err Memory = search rules in
    let changed : c.in_ok-done.done.changed ≡ true = search rules in
    rw answer (inr (refl, c.in_ok-done.done, contents_of c.step.new.self, c.in_ok-done.ensures.done, changed))
