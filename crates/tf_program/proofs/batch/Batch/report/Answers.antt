-- The lines of what was made are printed, or its error; or the error of the command.
use Rattle.std.proofs.Common.{Result, subst}
use Rattle.tf_program.specs.Inner.Entries.{IsResultIn, WasSaved, file_of}
use Rattle.tf_program.specs.declared.file_error.FileError.{FileError}
use Rattle.tf_program.specs.declared.files.Made.{Made}
use Rattle.tf_program.proofs.Reporting.{made_does, error_does}
use Rattle.tf_program.proofs.batch.Batch.report.Goals as goal

pub returns-in-Ok-clause-does : goal.returns-in-Ok-clause-does
returns-in-Ok-clause-does g c =
    λ spot old new is was.
    let made = subst (λ (r : Result (Made g.row.P.Denot) FileError). IsResultIn spot is.0 c.args.entry.now.name.now c.args.self.now.locate old r) c.in-Ok.is is.2 in
    let saved = subst (λ (r : Result (Made g.row.P.Denot) FileError). WasSaved spot (file_of r) c.args.saved old new) c.in-Ok.is was in
    made_does spot _ is.0 _ _ c.in-Ok.made _ _ _ _ new _ is.1 made saved c.print-met.ensures (c.note.ensures.noted new)

pub returns-in-Err-clause-does : goal.returns-in-Err-clause-does
returns-in-Err-clause-does g c =
    λ spot old new is was.
    let made = subst (λ (r : Result (Made g.row.P.Denot) FileError). IsResultIn spot is.0 c.args.entry.now.name.now c.args.self.now.locate old r) c.in-Err.is is.2 in
    let saved = subst (λ (r : Result (Made g.row.P.Denot) FileError). WasSaved spot (file_of r) c.args.saved old new) c.in-Err.is was in
    error_does spot _ is.0 _ _ _ _ _ new is.1 made saved.1 (c.note_error.ensures.noted new)
