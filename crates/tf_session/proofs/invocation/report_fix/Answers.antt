-- The fix is done; there are its lines, or memory ran out.
use Rattle.std.proofs.Common.{◌≡◌, ◌∙◌, ◌<◌, Err, List, ℕ, rules, subst, sym, refl, inr}
use Rattle.std.specs.Prelude.{string_bytes}
use Rattle.tf_lint.specs.Remaining.{remaining_count, IsRemaining}
use Rattle.tf_lint.specs.Steps.{IsReport}
use Rattle.tf_session.specs.declared.fault.RunFault.TheVariants.{Memory}
use Rattle.tf_session.specs.Session.{contents_of}
use Rattle.tf_session.proofs.invocation.report_fix.Goals as goal

pub returns-in_err-lines-clause-fault : goal.returns-in_err-lines-clause-fault
returns-in_err-lines-clause-fault c =
    let answer : c.from_residual-in_err-lines.result ≡ Err Memory = search rules in
    let some : 0 < remaining_count c.in_ok-done.left = c.in_err-lines.ensures.allocates in
    let left : 0 < c.in_ok-done.done.left = subst (λ (n : ℕ). 0 < n) (sym c.in_ok-done.ensures.counted) some in
    rw answer (inr (refl, c.in_ok-done.done, contents_of c.fix.new.self, c.in_ok-done.ensures.done, left))

pub returns-clause-lines : goal.returns-clause-lines
returns-clause-lines c =
    let bytes : c.into_bytes.result.items ≡ string_bytes c.in_ok-lines.lines = search rules in
    let remains = subst (λ (t : List ℕ). IsRemaining c.args.rules t c.in_ok-done.left) (sym c.text.ensures) c.in_ok-done.ensures.left in
    let (reported, report, lines) = c.in_ok-lines.ensures.lines c.args.rules remains in
    let here = subst (λ (t : List ℕ). IsReport c.args.rules t reported) c.text.ensures report in
    (reported, here, bytes ∙ lines)
