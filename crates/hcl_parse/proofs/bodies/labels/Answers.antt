use Rattle.std.proofs.Common.{rules, arith}
use Rattle.std.proofs.lemmas.Grind.{common_steps}
use Rattle.hcl_reader.proofs.Turns.{one_left, none_left}
use Rattle.hcl_grammar.specs.Pure.BodyParser.{labels_from}
use Rattle.hcl_parse.specs.BodyRules as spec
use Rattle.hcl_parse.proofs.Turns.{gives_refused}
use Rattle.hcl_parse.proofs.bodies.labels.Goals as goal

pub returns-in_err-more : goal.returns-in_err-more
unfolding labels_from
returns-in_err-more g c =
    let e = one_left (λ n. spec.labels_from (g.S.Builder.make c.args.builder.now) c.args.reader.now n c.loop-turn.found c.loop-turn.at) c.loop-turn-test.true c.loop-turn.invariant in
    gives_refused g.S.Builder.may_run_out _ 0 _ (search rules) e c.in_err-more.ensures

pub returns-in_default : goal.returns-in_default
unfolding labels_from
returns-in_default g c =
    let e = one_left (λ n. spec.labels_from (g.S.Builder.make c.args.builder.now) c.args.reader.now n c.loop-turn.found c.loop-turn.at) c.loop-turn-test.true c.loop-turn.invariant in
    first_of (search rules, cc, grind (arith, common_steps))

pub loop-turn-preserved : goal.loop-turn-preserved
unfolding labels_from
loop-turn-preserved g c =
    let e = one_left (λ n. spec.labels_from (g.S.Builder.make c.args.builder.now) c.args.reader.now n c.loop-turn.found c.loop-turn.at) c.loop-turn-test.true c.loop-turn.invariant in
    first_of (search rules, cc, grind (arith, common_steps))

pub returns : goal.returns
unfolding labels_from
returns g c =
    let e = none_left (λ n. spec.labels_from (g.S.Builder.make c.args.builder.now) c.args.reader.now n c.loop-turn.found c.loop-turn.at) c.loop-turn-test.false c.loop-turn.invariant in
    first_of (search rules, cc, grind (arith, common_steps))
