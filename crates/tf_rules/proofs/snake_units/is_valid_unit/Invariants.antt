use Rattle.std.proofs.Common.{◌≡◌, ◌+◌, true}
use Rattle.tf_rules.specs.Inner.SnakeCaseRest.{AreValid}
use Rattle.tf_rules.proofs.snake_units.is_valid_unit.Given as goal

abbrev pub invariant-loop-i : goal.invariant-loop-i
invariant-loop-i l = l.is_valid ≡ true → AreValid l.fn.name l.fn.at (l.fn.at + l.i)
