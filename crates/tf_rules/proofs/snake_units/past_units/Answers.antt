use Rattle.std.proofs.Common.{◌+◌, ◌-◌, ◌<◌, ◌≤◌, ◌≡◌, true, length, sym, arith}
use Rattle.tf_rules.proofs.SnakeCaseLemmas.{all_passed, joined_valid, later_valid, up_to}
use Rattle.tf_rules.specs.Inner.SnakeCaseRest.{AreValid}
use Rattle.tf_rules.proofs.snake_units.past_units.Goals as goal

pub returns-then-is_valid_unit-clause-rest : goal.returns-then-is_valid_unit-clause-rest
returns-then-is_valid_unit-clause-rest c =
    let name = c.args.name.now in
    let first = c.past_whole_units-at.ensures in
    let at = c.past_whole_units-at.result in
    let count = length name in
    let long : 16 < count = omega (arith, c.if-count-gt-UNIT.true) in
    let short : count - at < 16 = omega (arith, c.if-count-at-lt-UNIT.true) in
    let last : AreValid name at count = later_valid name (count - 16) at count (omega (arith, long, short, first.within)) (up_to name (count - 16) (count - 16 + 16) count (omega (arith, long)) (c.is_valid_unit.ensures c.if-is_valid_unit.true)) in
    sym (all_passed name 1 count (omega (arith, long)) (omega arith) (joined_valid name 1 at count first.valid last))

pub returns-clause-rest : goal.returns-clause-rest
returns-clause-rest c =
    let first = c.past_whole_units-at.ensures in
    sym (all_passed c.args.name.now 1 c.past_whole_units-at.result first.later first.within first.valid)
