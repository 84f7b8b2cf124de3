-- The lines of the records were printed, as far as no call failed.
use Rattle.std.proofs.Common.{◌≡◌, Err, None, inl, inr, refl, rules, subst, sym}
use Rattle.std.specs.Prelude.{string_bytes}
use Rattle.tf_session.specs.declared.fault.RunFault.{RunFault}
use Rattle.tf_program.specs.Printing.{channel_of, FailsToPrint}
use Rattle.tf_program.proofs.PrintedParts.{prints_here, fails_here}
use Rattle.tf_program.proofs.read_only.list_session.Goals as goal

pub returns-in_err-lines-clause-lists : goal.returns-in_err-lines-clause-lists
returns-in_err-lines-clause-lists g c =
    let fault = c.in_err-lines.field-0.0 in
    let answer : c.from_residual.result ≡ Err (record { fault = fault; location = None; explained = None; cause = None; hint = None }) = search rules in
    rw answer (refl, refl, inl (c.in_err-lines.ensures.memory, refl))

pub returns-in-Ok-clause-lists : goal.returns-in-Ok-clause-lists
returns-in-Ok-clause-lists g c =
    let lines = string_bytes c.in_ok-lines.lines in
    (refl, lines, c.in_ok-lines.ensures.lines, prints_here lines _ _ _ (search rules) c.in-Ok.ensures.done, refl)

pub returns-clause-lists : goal.returns-clause-lists
returns-clause-lists g c =
    let lines = string_bytes c.in_ok-lines.lines in
    let old = channel_of g.O.Write.contents c.args.streams.now.output in
    let new = channel_of g.O.Write.contents c.print.new.stream in
    let failed = fails_here lines c.as_bytes.result.now c.in-Err.fault old new (search rules) c.in-Err.ensures.fault in
    (c.unlocated.ensures.location, refl, inr (lines, c.in_ok-lines.ensures.lines, subst (λ (fault : RunFault). FailsToPrint lines fault old new) (sym c.unlocated.ensures.fault) failed))
