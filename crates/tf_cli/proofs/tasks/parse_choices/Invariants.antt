-- The choices up to here are those of the names up to here.
use Rattle.std.proofs.Common.{take, map}
use Rattle.tf_cli.specs.Choices.{AreNames}
use Rattle.tf_cli.proofs.tasks.parse_choices.Given as goal

abbrev pub invariant-loop-name : goal.invariant-loop-name
invariant-loop-name l = AreNames l.all.items (map (λ name. name.now) (take l.name-index l.names))
