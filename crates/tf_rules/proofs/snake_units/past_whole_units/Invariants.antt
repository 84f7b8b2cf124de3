use Rattle.std.proofs.Common.{◌≤◌, ◌-◌, length}
use Rattle.tf_rules.specs.Inner.SnakeCaseRest.{AreValid}
use Rattle.tf_rules.proofs.snake_units.past_whole_units.Given as goal

abbrev pub invariant-units : goal.invariant-units
invariant-units l = record {
  later : 1 ≤ l.at;
  within : l.at ≤ length l.fn.name;
  valid : AreValid l.fn.name 1 l.at;
}

abbrev pub decreases-units : goal.decreases-units
decreases-units l = length l.name - l.at
