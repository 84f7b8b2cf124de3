use Rattle.std.proofs.Common.{Ok, refl, sym, ap, ◌∙◌}
use Rattle.hcl_grammar.specs.Pure.Parser.{deeper}
use Rattle.hcl_parse.proofs.Ends.{plain_rest, plain_whole, expr_is}
use Rattle.hcl_parse.proofs.plain.eat_plain_expr.Goals as goal

pub returns-then-not-ends_expr-clause-tried : goal.returns-then-not-ends_expr-clause-tried
returns-then-not-ends_expr-clause-tried g c =
    let term = c.in_ok-turns-in-Some.ensures {u = tt} in
    let first = rw c.in-Some-2.is at term.first in
    let read = rw c.in-Some-2.is at term.read in
    let f = c.in-Some-2.field-0 in
    let kind = sym c.requires.kind ∙ c.in-Some.is in (
      refl,
      λ quiet. expr_is (g.S.Builder.make c.args.builder.now) c.args.reader.now.tokens c.args.reader.now.depth c.args.reader.now.skip_newlines c.args.at.now ∙ plain_rest (g.S.Builder.make c.args.builder.now) c.args.reader.now.tokens c.args.reader.now.depth (deeper (g.S.Builder.make c.args.builder.now) c.args.reader.now.tokens c.args.reader.now.depth) c.args.reader.now.skip_newlines f.turns c.args.at.now c.args.next.0 c.eat_term.new.at c.in-Some.kind f.head f.tails c.requires.number kind first (read quiet),
    )

pub returns-in_ok-made-in-Some-2-clause-tried : goal.returns-in_ok-made-in-Some-2-clause-tried
returns-in_ok-made-in-Some-2-clause-tried g c =
    let term = c.in_ok-turns-in-Some.ensures {u = tt} in
    let first = rw c.in-Some-2.is at term.first in
    let read = rw c.in-Some-2.is at term.read in
    let f = c.in-Some-2.field-0 in
    let kind = sym c.requires.kind ∙ c.in-Some.is in
    let ended = c.if-not-ends_expr.false in
    let e = expr_is (g.S.Builder.make c.args.builder.now) c.args.reader.now.tokens c.args.reader.now.depth c.args.reader.now.skip_newlines c.args.at.now ∙ plain_whole (g.S.Builder.make c.args.builder.now) c.args.reader.now.tokens c.args.reader.now.depth (deeper (g.S.Builder.make c.args.builder.now) c.args.reader.now.tokens c.args.reader.now.depth) c.args.reader.now.skip_newlines f.turns c.args.at.now c.args.next.0 c.eat_term.new.at c.in-Some.kind f.head f.tails c.requires.number kind first (read (c.ends_expr.ensures.called ended)) (c.ends_expr.ensures.tail ended) (c.ends_expr.ensures.operator ended) (c.ends_expr.ensures.question ended) in
    let made = c.in_ok-made-in-Some-2.ensures {u = tt} in
    e ∙ ap (λ x. Ok (x, c.eat_term.new.at)) (sym made)
