-- A call failed, and that was printed.
use Rattle.std.proofs.Common.{inr, refl, rules}
use Rattle.tf_program.proofs.PrintedParts.{prints_of}
use Rattle.tf_program.proofs.run.print_help.Goals as goal

pub returns-in-Err : goal.returns-in-Err
returns-in-Err g c =
    let (end, is, part) = c.in-Err.ensures.part in
    (end, is, refl, inr (refl, part, prints_of _ _ _ _ _ (search rules) c.print.ensures.done c.print.ensures.fault))
