-- A name of one option or of the other is that of no rule; or all of them choose rules.
use Rattle.std.proofs.Common.{◌≡◌, Err, inl, inr, rules}
use Rattle.tf_cli.proofs.Accepting.{chosen_of}
use Rattle.tf_cli.proofs.tasks.option_rules.Goals as goal

pub returns-in_err-disabled-clause-unknown : goal.returns-in_err-disabled-clause-unknown
returns-in_err-disabled-clause-unknown c =
    let exit = c.in_err-disabled.field-0.0 in
    let answer : c.from_residual.result ≡ Err exit = search rules in
    rw answer (inl c.in_err-disabled.ensures.unknown)

pub returns-in_err-enabled-clause-unknown : goal.returns-in_err-enabled-clause-unknown
returns-in_err-enabled-clause-unknown c =
    let exit = c.in_err-enabled.field-0.0 in
    let answer : c.from_residual-in_err-enabled.result ≡ Err exit = search rules in
    rw answer (inr (c.in_ok-disabled.disabled.items, c.in_ok-disabled.ensures.known, c.in_err-enabled.ensures.unknown))

pub returns-clause-chosen : goal.returns-clause-chosen
returns-clause-chosen c = (
  c.in_ok-disabled.disabled.items,
  c.in_ok-disabled.ensures.known,
  c.in_ok-enabled.enabled.items,
  c.in_ok-enabled.ensures.known,
  chosen_of c.in_ok-disabled.disabled.items c.in_ok-enabled.enabled.items c.deref.result.now c.deref-2.result.now c.chosen_rules.result
      c.deref.ensures.value c.deref-2.ensures.value c.chosen_rules.ensures,
)
