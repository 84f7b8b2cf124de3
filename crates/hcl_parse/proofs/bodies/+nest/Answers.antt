use Rattle.std.proofs.Common.{◌≡◌, ◌-◌, ℕ, zero, suc, List, length, refl, ap, ◌∙◌, rules, arith}
use Rattle.std.proofs.lemmas.Grind.{common_steps}
use Rattle.hcl_grammar.specs.Tokens.{Token}
use Rattle.hcl_reader.proofs.Turns.{one_left, none_left}
use Rattle.hcl_parse.specs.BodyRules as spec
use Rattle.hcl_grammar.specs.Pure.Makers.{Types, Makers}
use Rattle.hcl_grammar.specs.Pure.BodyParser as p
use Rattle.hcl_grammar.specs.Pure.BodyParser.{members_from}
use Rattle.hcl_parse.proofs.Turns.{refused}
use Rattle.hcl_parse.proofs.bodies.+nest.Goals as goal

members-is : {types : Types} (a : Makers types) (ts : List Token) (d i : ℕ) → p.members a ts d i ≡ p.members_from a ts d (p.deeper_members a ts d) (length ts) a.no_members i
unfolding p.members
members-is a ts zero i = refl
members-is a ts (suc d) i = refl

pub members-loop-turn-init : goal.members-loop-turn-init
members-loop-turn-init g t c =
    let here = c.args.reader.now in
    let all : length here.tokens ≡ c.len-turn-end.result - 0 = omega (arith, c.len-turn-end.ensures) in
    rw c.no_members-found.ensures (members-is (g.S.Builder.make c.args.builder.now) here.tokens here.depth c.args.at.now ∙ ap (λ n. spec.members_from (g.S.Builder.make c.args.builder.now) here n (g.S.Builder.make c.args.builder.now).no_members c.args.at.now) all)

pub members-returns-in_err-more : goal.members-returns-in_err-more
unfolding members_from
members-returns-in_err-more g t c =
    let e = one_left (λ n. spec.members_from (g.S.Builder.make c.args.builder.now) c.args.reader.now n c.loop-turn.found c.loop-turn.at) c.loop-turn-test.true c.loop-turn.invariant in
    let h = rw (c.eat_newline_next.ensures.line, c.if-eat_newline_next.false) at e in
    refused g.S.Builder.may_run_out _ 0 _ (search rules) h c.in_err-more.ensures

pub members-returns-in_default : goal.members-returns-in_default
unfolding members_from
members-returns-in_default g t c =
    let e = one_left (λ n. spec.members_from (g.S.Builder.make c.args.builder.now) c.args.reader.now n c.loop-turn.found c.loop-turn.at) c.loop-turn-test.true c.loop-turn.invariant in
    let h = rw (c.eat_newline_next.ensures.line, c.if-eat_newline_next.false) at e in
    first_of (search rules, cc, grind (arith, common_steps))

pub members-loop-turn-preserved-then-eat_newline_next : goal.members-loop-turn-preserved-then-eat_newline_next
unfolding members_from
members-loop-turn-preserved-then-eat_newline_next g t c =
    let e = one_left (λ n. spec.members_from (g.S.Builder.make c.args.builder.now) c.args.reader.now n c.loop-turn.found c.loop-turn.at) c.loop-turn-test.true c.loop-turn.invariant in
    let h = rw (c.eat_newline_next.ensures.line, c.if-eat_newline_next.true) at e in
    first_of (search rules, cc, grind (arith, common_steps))

pub members-loop-turn-preserved : goal.members-loop-turn-preserved
unfolding members_from
members-loop-turn-preserved g t c =
    let e = one_left (λ n. spec.members_from (g.S.Builder.make c.args.builder.now) c.args.reader.now n c.loop-turn.found c.loop-turn.at) c.loop-turn-test.true c.loop-turn.invariant in
    let h = rw (c.eat_newline_next.ensures.line, c.if-eat_newline_next.false) at e in
    first_of (search rules, cc, grind (arith, common_steps))

pub members-returns : goal.members-returns
unfolding members_from
members-returns g t c =
    let e = none_left (λ n. spec.members_from (g.S.Builder.make c.args.builder.now) c.args.reader.now n c.loop-turn.found c.loop-turn.at) c.loop-turn-test.false c.loop-turn.invariant in
    first_of (search rules, cc, grind (arith, common_steps))
