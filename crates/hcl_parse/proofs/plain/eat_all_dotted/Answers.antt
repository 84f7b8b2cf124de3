use Rattle.std.proofs.Common.{◌≡◌, ◌-◌, false, Ok, Some, length, ap, ◌∙◌, rules, arith}
use Rattle.std.proofs.lemmas.Grind.{common_steps}
use Rattle.hcl_reader.proofs.Turns.{one_left}
use Rattle.hcl_grammar.specs.Pure.Parser.{deeper}
use Rattle.hcl_parse.specs.Rules as spec
use Rattle.hcl_parse.proofs.Ends.{not_called, with_one_tail}
use Rattle.hcl_parse.proofs.plain.eat_all_dotted.Goals as goal

pub loop-turn-init : goal.loop-turn-init
loop-turn-init g c = (
  λ quiet.
      let here = c.args.reader.now in
      let all : length here.tokens ≡ c.len-most.result - 0 = omega (arith, c.len-most.ensures) in
      let e = not_called (g.S.Builder.make c.args.builder.now) c.args.reader.now.tokens c.args.reader.now.depth (deeper (g.S.Builder.make c.args.builder.now) c.args.reader.now.tokens c.args.reader.now.depth) c.args.reader.now.skip_newlines c.args.first c.args.at.now quiet in
      rw (c.identifier-head.ensures, c.no_tails-tails.ensures) (e ∙ ap (λ n. spec.with_tails (g.S.Builder.make c.args.builder.now) here n c.args.first ((g.S.Builder.make c.args.builder.now).identifier c.args.first c.args.at.now) (g.S.Builder.make c.args.builder.now).no_tails c.args.at.now) all),
  omega (arith),
)

pub loop-turn-preserved : goal.loop-turn-preserved
loop-turn-preserved g c = (
  λ quiet.
      let here = c.args.reader.now in
      let tail : spec.tail (g.S.Builder.make c.args.builder.now) here c.loop-turn.place ≡ Ok (Some c.in-Some.tail, c.eat_dotted.new.at) = first_of (search rules, cc, grind (arith, common_steps)) in
      let before : spec.is_called here c.loop-turn.place ≡ false = first_of (search rules, cc, grind (arith, common_steps)) in
      let made = c.in_ok-add_tail-in-Some.ensures {u = tt} in
      let e = one_left (λ n. spec.with_tails (g.S.Builder.make c.args.builder.now) here n c.args.first c.identifier-head.result c.loop-turn.tails c.loop-turn.place) c.loop-turn-test.true (c.loop-turn.invariant.0 before)
      ∙ with_one_tail (g.S.Builder.make c.args.builder.now) c.args.reader.now.tokens c.args.reader.now.depth (deeper (g.S.Builder.make c.args.builder.now) c.args.reader.now.tokens c.args.reader.now.depth) c.args.reader.now.skip_newlines _ c.args.first c.identifier-head.result c.loop-turn.tails c.in-Some.tail c.loop-turn.place c.eat_dotted.new.at tail in
      first_of (search rules, cc, grind (arith, common_steps)),
  c.eat_dotted.ensures.place c.loop-turn.invariant.1,
)
