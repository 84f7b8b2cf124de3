use Rattle.std.proofs.Common.{◌≡◌, ◌-◌, ◌<◌, ◌^◌, false}
use Rattle.hcl_token.specs.declared.kind.Kind.TheVariants as k
use Rattle.hcl_parse.specs.Rules as spec
use Rattle.hcl_parse.proofs.plain.eat_all_dotted.Given as goal

abbrev pub invariant-loop-turn : goal.invariant-loop-turn
invariant-loop-turn g l = (spec.is_called l.reader l.place ≡ false → spec.post (g.S.Builder.make l.builder) l.reader l.first k.Identifier l.fn.at ≡ spec.with_tails (g.S.Builder.make l.builder) l.reader (l.most - l.turn) l.first l.head l.tails l.place) × (l.place < 2 ^ 32)
