-- One name more; or the next is that of no rule.
use Rattle.std.proofs.Common.{◌≡◌, ℕ, List, Bor, Err, rules}
use Rattle.tf_cli.specs.declared.exits.Exit.TheVariants.{Memory}
use Rattle.tf_cli.proofs.Naming.{one_more_name, unknown_here, no_memory_here}
use Rattle.tf_cli.proofs.tasks.parse_choices.Goals as goal

pub returns-in_err-choice-clause-unknown : goal.returns-in_err-choice-clause-unknown
returns-in_err-choice-clause-unknown c =
    let exit = c.in_err-choice.field-0.0 in
    let answer : c.from_residual.result ≡ Err exit = search rules in
    rw answer (unknown_here (λ (n : Bor (List ℕ)). n.now) c.args.names.now c.loop-name.name-index _ c.loop-name.all.items exit c.loop-name-test.true c.loop-name.invariant c.in_err-choice.ensures.unknown)

pub returns-in_err-push-clause-unknown : goal.returns-in_err-push-clause-unknown
returns-in_err-push-clause-unknown c =
    let answer : c.from_residual-in_err-push.result ≡ Err Memory = search rules in
    rw answer (no_memory_here (λ (n : Bor (List ℕ)). n.now) c.args.names.now c.loop-name.name-index c.loop-name.all.items c.loop-name-test.true c.loop-name.invariant)

pub loop-name-preserved : goal.loop-name-preserved
loop-name-preserved c =
    one_more_name (λ (n : Bor (List ℕ)). n.now) c.args.names.now c.loop-name.name-index _ c.loop-name.all.items c.push.new.self.items c.in_ok-choice.choice c.loop-name-test.true c.loop-name.invariant c.in_ok-choice.ensures.known (search rules)
