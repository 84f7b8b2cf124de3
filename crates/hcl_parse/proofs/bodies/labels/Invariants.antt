use Rattle.std.proofs.Common.{◌≡◌, ◌-◌}
use Rattle.hcl_parse.specs.BodyRules as spec
use Rattle.hcl_parse.proofs.bodies.labels.Given as goal

abbrev pub invariant-loop-turn : goal.invariant-loop-turn
invariant-loop-turn g l = spec.labels (g.S.Builder.make l.builder) l.reader l.fn.at ≡ spec.labels_from (g.S.Builder.make l.builder) l.reader (l._turn-end - l._turn) l.found l.at
