-- The lines were printed at once, as far as no call failed.
use Rattle.std.proofs.Common.{inl, rules}
use Rattle.std.specs.Prelude.{string_bytes}
use Rattle.tf_program.proofs.PrintedParts.{prints_of}
use Rattle.tf_program.proofs.file_error.FileError.report.Goals as goal

pub returns-in-Ok : goal.returns-in-Ok
returns-in-Ok g c =
    (string_bytes c.in-Ok.lines, inl c.in-Ok.ensures, prints_of _ _ _ _ _ (search rules) c.print.ensures.done c.print.ensures.fault)
