-- The values up to here.
use Rattle.std.proofs.Common.{◌≡◌, take, map}
use Rattle.tf_cli.proofs.tasks.copy_values.Given as goal

abbrev pub invariant-loop-value : goal.invariant-loop-value
invariant-loop-value l =
    map (λ value. value.now) l.all.items ≡ map (λ value. value.now) (take l.value-index l.given)
