-- The name of the program, and the arguments up to here.
use Rattle.std.proofs.Common.{◌≡◌, ◌∷◌, take, map, codes}
use Rattle.std.specs.Prelude.{string_bytes}
use Rattle.tf_cli.specs.Arguments.{normalized}
use Rattle.tf_cli.proofs.command_line.normalize_arguments.Given as goal

abbrev pub invariant-loop-arg : goal.invariant-loop-arg
invariant-loop-arg l =
    map (λ arg. arg.now) l.args.items
    ≡ codes "tfk" ∷ map (normalized l.is_fmt) (map string_bytes (take l.arg-index l.raw_args))
