-- By the laws of edits.
use Rattle.tf_session.proofs.RemoveRecord.{only_old}
use Rattle.tf_session.proofs.taking.undo_edits.Goals as goal

pub returns-clause-only : goal.returns-clause-only
returns-clause-only c = only_old c.args.edits.now c.args.text.now c.undo.result c.undo_is_exact.ensures c.undo.ensures.agrees
