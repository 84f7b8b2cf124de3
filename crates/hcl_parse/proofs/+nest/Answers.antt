use Rattle.std.proofs.Common.{◌∙◌, length, refl, sym, rules, arith}
use Rattle.std.proofs.lemmas.Grind.{common_steps}
use Rattle.hcl_reader.proofs.Turns.{one_left, none_left}
use Rattle.hcl_grammar.specs.Pure.Parser.{deeper, arguments_from, tuple_items_from, elems_from, parts_from, operations_from, tails_from, post_by}
use Rattle.hcl_parse.specs.Rules as spec
use Rattle.hcl_parse.proofs.Ends.{expr_is, operand_is, parts_is, operand_ends, ends_tails}
use Rattle.hcl_parse.proofs.Turns.{refused}
use Rattle.hcl_parse.proofs.+nest.Goals as goal

pub exprs::after_operand-returns-then-ends : goal.exprs::after_operand-returns-then-ends
exprs::after_operand-returns-then-ends g t c =
    operand_ends (g.S.Builder.make c.args.builder.now) c.args.reader.now.tokens c.args.reader.now.depth (deeper (g.S.Builder.make c.args.builder.now) c.args.reader.now.tokens c.args.reader.now.depth) c.args.reader.now.skip_newlines c.args.first c.args.head c.args.at.now (c.ends.ensures.operator c.if-ends.true) (c.ends.ensures.question c.if-ends.true)

pub exprs::general_expr-returns : goal.exprs::general_expr-returns
exprs::general_expr-returns g t c =
    rw (expr_is (g.S.Builder.make c.args.builder.now) c.args.reader.now.tokens c.args.reader.now.depth c.args.reader.now.skip_newlines c.args.at.now) c.whole.ensures

pub exprs::operand-returns : goal.exprs::operand-returns
exprs::operand-returns g t c =
    rw (operand_is (g.S.Builder.make c.args.builder.now) c.args.reader.now.tokens c.args.reader.now.depth c.args.reader.now.skip_newlines c.args.at.now) c.unary.ensures

pub terms::arguments-returns-then-eat_next : goal.terms::arguments-returns-then-eat_next
unfolding arguments_from
terms::arguments-returns-then-eat_next g t c =
    let e = one_left (λ n. spec.arguments_from (g.S.Builder.make c.args.builder.now) c.args.reader.now n c.loop-turn.found c.loop-turn.at) c.loop-turn-test.true c.loop-turn.invariant in
    first_of (search rules, cc, grind (arith, common_steps))

pub terms::arguments-returns-in_err-item : goal.terms::arguments-returns-in_err-item
unfolding arguments_from
terms::arguments-returns-in_err-item g t c =
    let e = one_left (λ n. spec.arguments_from (g.S.Builder.make c.args.builder.now) c.args.reader.now n c.loop-turn.found c.loop-turn.at) c.loop-turn-test.true c.loop-turn.invariant in
    first_of (search rules, cc, grind (arith, common_steps))

pub terms::arguments-returns-in_err-expect_next : goal.terms::arguments-returns-in_err-expect_next
unfolding arguments_from
terms::arguments-returns-in_err-expect_next g t c =
    let e = one_left (λ n. spec.arguments_from (g.S.Builder.make c.args.builder.now) c.args.reader.now n c.loop-turn.found c.loop-turn.at) c.loop-turn-test.true c.loop-turn.invariant in
    first_of (search rules, cc, grind (arith, common_steps))

pub terms::arguments-returns-then-not-eat_next-2 : goal.terms::arguments-returns-then-not-eat_next-2
unfolding arguments_from
terms::arguments-returns-then-not-eat_next-2 g t c =
    let e = one_left (λ n. spec.arguments_from (g.S.Builder.make c.args.builder.now) c.args.reader.now n c.loop-turn.found c.loop-turn.at) c.loop-turn-test.true c.loop-turn.invariant in
    first_of (search rules, cc, grind (arith, common_steps))

pub terms::arguments-returns-in_err-expect : goal.terms::arguments-returns-in_err-expect
unfolding arguments_from
terms::arguments-returns-in_err-expect g t c =
    let e = one_left (λ n. spec.arguments_from (g.S.Builder.make c.args.builder.now) c.args.reader.now n c.loop-turn.found c.loop-turn.at) c.loop-turn-test.true c.loop-turn.invariant in
    first_of (search rules, cc, grind (arith, common_steps))

pub terms::arguments-returns-then-not-eat_next : goal.terms::arguments-returns-then-not-eat_next
unfolding arguments_from
terms::arguments-returns-then-not-eat_next g t c =
    let e = one_left (λ n. spec.arguments_from (g.S.Builder.make c.args.builder.now) c.args.reader.now n c.loop-turn.found c.loop-turn.at) c.loop-turn-test.true c.loop-turn.invariant in
    first_of (search rules, cc, grind (arith, common_steps))

pub terms::arguments-loop-turn-preserved : goal.terms::arguments-loop-turn-preserved
unfolding arguments_from
terms::arguments-loop-turn-preserved g t c =
    let e = one_left (λ n. spec.arguments_from (g.S.Builder.make c.args.builder.now) c.args.reader.now n c.loop-turn.found c.loop-turn.at) c.loop-turn-test.true c.loop-turn.invariant in
    first_of (search rules, cc, grind (arith, common_steps))

pub terms::arguments-returns : goal.terms::arguments-returns
unfolding arguments_from
terms::arguments-returns g t c =
    let e = none_left (λ n. spec.arguments_from (g.S.Builder.make c.args.builder.now) c.args.reader.now n c.loop-turn.found c.loop-turn.at) c.loop-turn-test.false c.loop-turn.invariant in
    first_of (search rules, cc, grind (arith, common_steps))

pub terms::tuple_items-returns-then-eat_next : goal.terms::tuple_items-returns-then-eat_next
unfolding tuple_items_from
terms::tuple_items-returns-then-eat_next g t c =
    let e = one_left (λ n. spec.tuple_items_from (g.S.Builder.make c.args.builder.now) c.args.reader.now n c.loop-turn.found c.loop-turn.at) c.loop-turn-test.true c.loop-turn.invariant in
    first_of (search rules, cc, grind (arith, common_steps))

pub terms::tuple_items-returns-in_err-item : goal.terms::tuple_items-returns-in_err-item
unfolding tuple_items_from
terms::tuple_items-returns-in_err-item g t c =
    let e = one_left (λ n. spec.tuple_items_from (g.S.Builder.make c.args.builder.now) c.args.reader.now n c.loop-turn.found c.loop-turn.at) c.loop-turn-test.true c.loop-turn.invariant in
    first_of (search rules, cc, grind (arith, common_steps))

pub terms::tuple_items-returns-in_err-expect_next : goal.terms::tuple_items-returns-in_err-expect_next
unfolding tuple_items_from
terms::tuple_items-returns-in_err-expect_next g t c =
    let e = one_left (λ n. spec.tuple_items_from (g.S.Builder.make c.args.builder.now) c.args.reader.now n c.loop-turn.found c.loop-turn.at) c.loop-turn-test.true c.loop-turn.invariant in
    first_of (search rules, cc, grind (arith, common_steps))

pub terms::tuple_items-returns-then-not-eat_next : goal.terms::tuple_items-returns-then-not-eat_next
unfolding tuple_items_from
terms::tuple_items-returns-then-not-eat_next g t c =
    let e = one_left (λ n. spec.tuple_items_from (g.S.Builder.make c.args.builder.now) c.args.reader.now n c.loop-turn.found c.loop-turn.at) c.loop-turn-test.true c.loop-turn.invariant in
    first_of (search rules, cc, grind (arith, common_steps))

pub terms::tuple_items-loop-turn-preserved : goal.terms::tuple_items-loop-turn-preserved
unfolding tuple_items_from
terms::tuple_items-loop-turn-preserved g t c =
    let e = one_left (λ n. spec.tuple_items_from (g.S.Builder.make c.args.builder.now) c.args.reader.now n c.loop-turn.found c.loop-turn.at) c.loop-turn-test.true c.loop-turn.invariant in
    first_of (search rules, cc, grind (arith, common_steps))

pub terms::tuple_items-returns : goal.terms::tuple_items-returns
unfolding tuple_items_from
terms::tuple_items-returns g t c =
    let e = none_left (λ n. spec.tuple_items_from (g.S.Builder.make c.args.builder.now) c.args.reader.now n c.loop-turn.found c.loop-turn.at) c.loop-turn-test.false c.loop-turn.invariant in
    first_of (search rules, cc, grind (arith, common_steps))

pub tails::each_tail-returns-in_err-more : goal.tails::each_tail-returns-in_err-more
unfolding tails_from
tails::each_tail-returns-in_err-more g t c =
    let e = one_left (λ n. spec.tails_from (g.S.Builder.make c.args.builder.now) c.args.reader.now n c.loop-turn.all c.loop-turn.at) c.loop-turn-test.true c.loop-turn.invariant in
    refused g.S.Builder.may_run_out _ 0 _ (search rules) e c.in_err-more.ensures

pub tails::each_tail-returns-in-None : goal.tails::each_tail-returns-in-None
unfolding tails_from
tails::each_tail-returns-in-None g t c =
    let e = one_left (λ n. spec.tails_from (g.S.Builder.make c.args.builder.now) c.args.reader.now n c.loop-turn.all c.loop-turn.at) c.loop-turn-test.true c.loop-turn.invariant in
    first_of (search rules, cc, grind (arith, common_steps))

pub tails::each_tail-loop-turn-preserved : goal.tails::each_tail-loop-turn-preserved
unfolding tails_from
tails::each_tail-loop-turn-preserved g t c =
    let e = one_left (λ n. spec.tails_from (g.S.Builder.make c.args.builder.now) c.args.reader.now n c.loop-turn.all c.loop-turn.at) c.loop-turn-test.true c.loop-turn.invariant in
    first_of (search rules, cc, grind (arith, common_steps))

pub tails::each_tail-returns : goal.tails::each_tail-returns
unfolding tails_from
tails::each_tail-returns g t c =
    let e = none_left (λ n. spec.tails_from (g.S.Builder.make c.args.builder.now) c.args.reader.now n c.loop-turn.all c.loop-turn.at) c.loop-turn-test.false c.loop-turn.invariant in
    first_of (search rules, cc, grind (arith, common_steps))

pub tails::post-returns-then-not-has_tail : goal.tails::post-returns-then-not-has_tail
unfolding post_by
tails::post-returns-then-not-has_tail g t c =
    let e = ends_tails (g.S.Builder.make c.args.builder.now) c.args.reader.now.tokens c.args.reader.now.depth (deeper (g.S.Builder.make c.args.builder.now) c.args.reader.now.tokens c.args.reader.now.depth) c.args.reader.now.skip_newlines (length c.args.reader.now.tokens) c.args.first c.in_ok-head.head ((g.S.Builder.make c.args.builder.now).no_tails) _ (c.has_tail.ensures c.if-not-has_tail.true) in
    rw (c.in_ok-head.ensures {u = tt}, e, c.term_expr.ensures) refl

pub exprs::operations-returns-in_default : goal.exprs::operations-returns-in_default
unfolding operations_from
exprs::operations-returns-in_default g t c =
    let e = one_left (λ n. spec.operations_from (g.S.Builder.make c.args.builder.now) c.args.reader.now n c.loop-turn.found c.loop-turn.at) c.loop-turn-test.true c.loop-turn.invariant in
    first_of (search rules, cc, grind (arith, common_steps))

pub exprs::operations-returns-in_err-operand : goal.exprs::operations-returns-in_err-operand
unfolding operations_from
exprs::operations-returns-in_err-operand g t c =
    let e = one_left (λ n. spec.operations_from (g.S.Builder.make c.args.builder.now) c.args.reader.now n c.loop-turn.found c.loop-turn.at) c.loop-turn-test.true c.loop-turn.invariant in
    let h = rw (c.eat_operator.ensures, c.in-Some.is) at e in
    refused g.S.Builder.may_run_out _ 0 _ (search rules) h c.in_err-operand.ensures

pub exprs::operations-loop-turn-preserved : goal.exprs::operations-loop-turn-preserved
unfolding operations_from
exprs::operations-loop-turn-preserved g t c =
    let e = one_left (λ n. spec.operations_from (g.S.Builder.make c.args.builder.now) c.args.reader.now n c.loop-turn.found c.loop-turn.at) c.loop-turn-test.true c.loop-turn.invariant in
    let h = rw (c.eat_operator.ensures, c.in-Some.is) at e in
    let k = rw (c.in_ok-operand.ensures {u = tt}) at h in
    first_of (search rules, cc, grind (arith, common_steps))

pub exprs::operations-returns : goal.exprs::operations-returns
unfolding operations_from
exprs::operations-returns g t c =
    let e = none_left (λ n. spec.operations_from (g.S.Builder.make c.args.builder.now) c.args.reader.now n c.loop-turn.found c.loop-turn.at) c.loop-turn-test.false c.loop-turn.invariant in
    first_of (search rules, cc, grind (arith, common_steps))

pub exprs::rest_of_expr-returns-then-not-has_tail : goal.exprs::rest_of_expr-returns-then-not-has_tail
exprs::rest_of_expr-returns-then-not-has_tail g t c =
    let e = ends_tails (g.S.Builder.make c.args.builder.now) c.args.reader.now.tokens c.args.reader.now.depth (deeper (g.S.Builder.make c.args.builder.now) c.args.reader.now.tokens c.args.reader.now.depth) c.args.reader.now.skip_newlines c.args.turns c.args.first c.args.head c.args.tails c.args.at.now (c.has_tail.ensures c.if-not-has_tail.true) in
    rw (e, ← (c.in_ok-alone.ensures {u = tt})) c.chain.ensures

-- ---- elements

pub terms::elems-returns-then-eat_next : goal.terms::elems-returns-then-eat_next
unfolding elems_from
terms::elems-returns-then-eat_next g t c =
    let e = one_left (λ n. spec.elems_from (g.S.Builder.make c.args.builder.now) c.args.reader.now n c.loop-turn.found c.loop-turn.at) c.loop-turn-test.true c.loop-turn.invariant in
    first_of (search rules, cc, grind (arith, common_steps))

pub terms::elems-returns-in_err-found : goal.terms::elems-returns-in_err-found
unfolding elems_from
terms::elems-returns-in_err-found g t c =
    let e = one_left (λ n. spec.elems_from (g.S.Builder.make c.args.builder.now) c.args.reader.now n c.loop-turn.found c.loop-turn.at) c.loop-turn-test.true c.loop-turn.invariant in
    first_of (search rules, cc, grind (arith, common_steps))

pub terms::elems-returns-in_err-eat_separator_or_brace : goal.terms::elems-returns-in_err-eat_separator_or_brace
unfolding elems_from
terms::elems-returns-in_err-eat_separator_or_brace g t c =
    let e = one_left (λ n. spec.elems_from (g.S.Builder.make c.args.builder.now) c.args.reader.now n c.loop-turn.found c.loop-turn.at) c.loop-turn-test.true c.loop-turn.invariant in
    first_of (search rules, cc, grind (arith, common_steps))

pub terms::elems-returns-then-not-branch : goal.terms::elems-returns-then-not-branch
unfolding elems_from
terms::elems-returns-then-not-branch g t c =
    let e = one_left (λ n. spec.elems_from (g.S.Builder.make c.args.builder.now) c.args.reader.now n c.loop-turn.found c.loop-turn.at) c.loop-turn-test.true c.loop-turn.invariant in
    first_of (search rules, cc, grind (arith, common_steps))

pub terms::elems-loop-turn-preserved : goal.terms::elems-loop-turn-preserved
unfolding elems_from
terms::elems-loop-turn-preserved g t c =
    let e = one_left (λ n. spec.elems_from (g.S.Builder.make c.args.builder.now) c.args.reader.now n c.loop-turn.found c.loop-turn.at) c.loop-turn-test.true c.loop-turn.invariant in
    first_of (search rules, cc, grind (arith, common_steps))

pub terms::elems-returns : goal.terms::elems-returns
unfolding elems_from
terms::elems-returns g t c =
    let e = none_left (λ n. spec.elems_from (g.S.Builder.make c.args.builder.now) c.args.reader.now n c.loop-turn.found c.loop-turn.at) c.loop-turn-test.false c.loop-turn.invariant in
    first_of (search rules, cc, grind (arith, common_steps))

-- ---- parts

pub templates::each_part-returns-in_err-more : goal.templates::each_part-returns-in_err-more
unfolding parts_from
templates::each_part-returns-in_err-more g t c =
    let e = one_left (λ n. spec.parts_from (g.S.Builder.make c.args.builder.now) c.args.reader.now n c.loop-turn.found c.loop-turn.at) c.loop-turn-test.true c.loop-turn.invariant in
    first_of (search rules, cc, grind (arith, common_steps))

pub templates::each_part-returns-in_default : goal.templates::each_part-returns-in_default
unfolding parts_from
templates::each_part-returns-in_default g t c =
    let e = one_left (λ n. spec.parts_from (g.S.Builder.make c.args.builder.now) c.args.reader.now n c.loop-turn.found c.loop-turn.at) c.loop-turn-test.true c.loop-turn.invariant in
    first_of (search rules, cc, grind (arith, common_steps))

pub templates::each_part-loop-turn-preserved : goal.templates::each_part-loop-turn-preserved
unfolding parts_from
templates::each_part-loop-turn-preserved g t c =
    let e = one_left (λ n. spec.parts_from (g.S.Builder.make c.args.builder.now) c.args.reader.now n c.loop-turn.found c.loop-turn.at) c.loop-turn-test.true c.loop-turn.invariant in
    first_of (search rules, cc, grind (arith, common_steps))

pub templates::each_part-returns : goal.templates::each_part-returns
unfolding parts_from
templates::each_part-returns g t c =
    let e = none_left (λ n. spec.parts_from (g.S.Builder.make c.args.builder.now) c.args.reader.now n c.loop-turn.found c.loop-turn.at) c.loop-turn-test.false c.loop-turn.invariant in
    first_of (search rules, cc, grind (arith, common_steps))

pub templates::parts-returns : goal.templates::parts-returns
templates::parts-returns g t c = rw (parts_is (g.S.Builder.make c.args.builder.now) c.args.reader.now.tokens c.args.reader.now.depth c.args.reader.now.skip_newlines c.args.at.now) c.each_part.ensures

pub exprs::expr_after_term-returns : goal.exprs::expr_after_term-returns
exprs::expr_after_term-returns g t c = rw (c.requires (sym c.is_called.ensures ∙ c.if-is_called.false)) c.rest_of_expr.ensures
