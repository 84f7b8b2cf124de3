use Rattle.std.proofs.Common.{arith}
use Rattle.std.proofs.lemmas.Result.{err_from_is_err_and}
use Rattle.edit_record.proofs.ListsLemmas.Undoing.{undo_last, undo_stops}
use Rattle.edit_record.proofs.lists.sequence.undo_all.Goals as goal

pub returns-in_err-now-2 : goal.returns-in_err-now-2
returns-in_err-now-2 g c =
    let p = err_from_is_err_and c.from_residual-in_err-now-2.result c.from_residual-in_err-now-2.ensures.1 in
    rw (p.1, p.2) (undo_stops g.C.Change.backward c.loop-remaining.remaining.now c.change-item.result c.loop-remaining.now.items _ c.in_err-now-2.field-0.0 (omega arith) c.change-item.is (rw c.deref.ensures.value at c.in_err-now-2.ensures) c.loop-remaining.invariant)

pub loop-remaining-preserved : goal.loop-remaining-preserved
loop-remaining-preserved g c =
    undo_last g.C.Change.backward c.loop-remaining.remaining.now c.change-item.result c.loop-remaining.now.items c.in_ok-now-2.now.items _ (omega arith) c.change-item.is (rw c.deref.ensures.value at c.in_ok-now-2.ensures) c.loop-remaining.invariant
