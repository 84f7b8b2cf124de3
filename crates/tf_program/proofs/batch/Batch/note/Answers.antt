-- An error is noted and printed.
use Rattle.tf_program.proofs.batch.Batch.note.Goals as goal

pub returns-in-Err-clause-noted : goal.returns-in-Err-clause-noted
returns-in-Err-clause-noted g c = rw c.in-Err.is c.note_error.ensures.noted
