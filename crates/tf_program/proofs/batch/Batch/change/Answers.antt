-- What was held stays or is finished, perhaps twice, and then the entry is put in.
use Rattle.std.proofs.Common.{sym}
use Rattle.tf_program.proofs.Holding.{finish_then, puts_in_after}
use Rattle.tf_program.proofs.batch.Batch.change.Goals as goal

pub returns : goal.returns
returns g c =
    rw (sym c.make-entry.ensures.name)
    (puts_in_after _ _ _ _ _ _ _ _ (finish_then _ _ _ _ _ _ _ c.admit-place.ensures.step c.make-entry.ensures.step) c.add.ensures)
