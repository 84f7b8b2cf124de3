use Rattle.std.proofs.Common.{◌≡◌, drop}
use Rattle.tf_rules.specs.Inner.SnakeCaseRest.{is_valid_rest}
use Rattle.tf_rules.proofs.snake_case.is_valid_rest.Given as goal

abbrev pub invariant-loop-c : goal.invariant-loop-c
invariant-loop-c l = is_valid_rest l.after_underscore (drop l.c-index l.fn.rest) ≡ is_valid_rest l.fn.after_first l.fn.rest
