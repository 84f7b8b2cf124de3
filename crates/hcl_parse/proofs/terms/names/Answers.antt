use Rattle.std.proofs.Common.{rules, arith}
use Rattle.std.proofs.lemmas.Grind.{common_steps}
use Rattle.hcl_reader.proofs.Turns.{one_left, none_left}
use Rattle.hcl_grammar.specs.Pure.Parser.{names_from}
use Rattle.hcl_parse.specs.Rules as spec
use Rattle.hcl_parse.proofs.terms.names.Goals as goal

pub returns-then-not-eat : goal.returns-then-not-eat
unfolding names_from
returns-then-not-eat g c =
    let e = one_left (λ n. spec.names_from (g.S.Builder.make c.args.builder.now) c.args.reader.now n c.loop-turn.found c.loop-turn.at) c.loop-turn-test.true c.loop-turn.invariant in
    first_of (search rules, cc, grind (arith, common_steps))

pub returns-in_err-expect : goal.returns-in_err-expect
unfolding names_from
returns-in_err-expect g c =
    let e = one_left (λ n. spec.names_from (g.S.Builder.make c.args.builder.now) c.args.reader.now n c.loop-turn.found c.loop-turn.at) c.loop-turn-test.true c.loop-turn.invariant in
    first_of (search rules, cc, grind (arith, common_steps))

pub loop-turn-preserved : goal.loop-turn-preserved
unfolding names_from
loop-turn-preserved g c =
    let e = one_left (λ n. spec.names_from (g.S.Builder.make c.args.builder.now) c.args.reader.now n c.loop-turn.found c.loop-turn.at) c.loop-turn-test.true c.loop-turn.invariant in
    first_of (search rules, cc, grind (arith, common_steps))

pub returns : goal.returns
unfolding names_from
returns g c =
    let e = none_left (λ n. spec.names_from (g.S.Builder.make c.args.builder.now) c.args.reader.now n c.loop-turn.found c.loop-turn.at) c.loop-turn-test.false c.loop-turn.invariant in
    first_of (search rules, cc, grind (arith, common_steps))
