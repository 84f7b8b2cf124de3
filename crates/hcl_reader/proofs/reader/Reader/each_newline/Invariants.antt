use Rattle.std.proofs.Common.{◌≡◌, ◌-◌}
use Rattle.hcl_reader.specs.ReaderRules as spec
use Rattle.hcl_reader.proofs.reader.Reader.each_newline.Given as goal

abbrev pub invariant-loop-turn : goal.invariant-loop-turn
invariant-loop-turn l = spec.skip_newlines l.self l.fn.at ≡ spec.skip_newlines_from l.self (l._turn-end - l._turn) l.at
