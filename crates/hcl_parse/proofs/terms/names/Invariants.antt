use Rattle.std.proofs.Common.{◌≡◌, ◌-◌}
use Rattle.hcl_parse.specs.Rules as spec
use Rattle.hcl_parse.proofs.terms.names.Given as goal

abbrev pub invariant-loop-turn : goal.invariant-loop-turn
invariant-loop-turn g l = spec.names (g.S.Builder.make l.builder) l.reader l.first l.fn.at ≡ spec.names_from (g.S.Builder.make l.builder) l.reader (l._turn-end - l._turn) l.found l.at
