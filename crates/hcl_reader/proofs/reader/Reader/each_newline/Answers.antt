use Rattle.std.proofs.Common.{rules, arith}
use Rattle.hcl_grammar.specs.Pure.Steps.{skip_newlines_from}
use Rattle.hcl_reader.specs.ReaderRules as spec
use Rattle.hcl_reader.proofs.Turns.{one_left, none_left, refused}
use Rattle.hcl_reader.proofs.reader.Reader.each_newline.Goals as goal

pub returns-in_err-eat_inner_newline : goal.returns-in_err-eat_inner_newline
unfolding skip_newlines_from
returns-in_err-eat_inner_newline c =
    let e = one_left (λ n. spec.skip_newlines_from c.args.self.now n c.loop-turn.at) c.loop-turn-test.true c.loop-turn.invariant in
    refused _ 0 _ (search rules) e c.in_err-eat_inner_newline.ensures

pub returns-then-not-branch : goal.returns-then-not-branch
unfolding skip_newlines_from
returns-then-not-branch c =
    let e = one_left (λ n. spec.skip_newlines_from c.args.self.now n c.loop-turn.at) c.loop-turn-test.true c.loop-turn.invariant in
    let h = rw (c.in_ok-eat_inner_newline.ensures {u = tt}, c.if-not-branch.true) at e in
    first_of (search rules, cc, grind arith)

pub loop-turn-preserved : goal.loop-turn-preserved
unfolding skip_newlines_from
loop-turn-preserved c =
    let e = one_left (λ n. spec.skip_newlines_from c.args.self.now n c.loop-turn.at) c.loop-turn-test.true c.loop-turn.invariant in
    let h = rw (c.in_ok-eat_inner_newline.ensures {u = tt}, c.if-not-branch.false) at e in
    first_of (search rules, cc, grind arith)

pub returns : goal.returns
unfolding skip_newlines_from
returns c =
    let e = none_left (λ n. spec.skip_newlines_from c.args.self.now n c.loop-turn.at) c.loop-turn-test.false c.loop-turn.invariant in
    first_of (search rules, cc, grind arith)
