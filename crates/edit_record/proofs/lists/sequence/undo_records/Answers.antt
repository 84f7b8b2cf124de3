use Rattle.std.proofs.Common.{arith, refl, subst}
use Rattle.std.proofs.lemmas.Result.{err_from_is_err_and}
use Rattle.edit_record.specs.declared.lists.direction.Direction.TheVariants.{Backward}
use Rattle.edit_record.specs.Lists.ChangeResults.{AgreesWith}
use Rattle.edit_record.specs.Lists.Journal.{record_backward}
use Rattle.edit_record.proofs.ListsLemmas.JournalResults.{always, given_len, last_given, worked}
use Rattle.edit_record.proofs.ListsLemmas.Undoing.{undo_last, undo_stops}
use Rattle.edit_record.proofs.lists.sequence.undo_records.Goals as goal

pub returns-in_err-now-in-len1-up-clause-agrees : goal.returns-in_err-now-in-len1-up-clause-agrees
returns-in_err-now-in-len1-up-clause-agrees c =
    let p = err_from_is_err_and c.from_residual-in_err-now-in-len1-up.result c.from_residual-in_err-now-in-len1-up.ensures.1 in
    rw (p.1, p.2) (undo_stops record_backward c.args.records.now c.last-item.result c.args.text.now _ c.in_err-now-in-len1-up.field-0.0 (omega arith) c.last-item.is c.in_err-now-in-len1-up.ensures.agrees refl)

pub returns-in_err-now-in-len1-up-clause-memory : goal.returns-in_err-now-in-len1-up-clause-memory
returns-in_err-now-in-len1-up-clause-memory c =
    let p = err_from_is_err_and c.from_residual-in_err-now-in-len1-up.result c.from_residual-in_err-now-in-len1-up.ensures.1 in
    rw (p.1, p.2) (λ m. last_given c.args.records.now c.last-item.result c.args.text.now (omega arith) c.last-item.is (given_len Backward c.last-item.result.edits c.args.text.now c.in_err-now-in-len1-up.field-0.0 c.in_err-now-in-len1-up.ensures.pieces m))

pub returns-in_ok-now-in-len1-up-clause-agrees : goal.returns-in_ok-now-in-len1-up-clause-agrees
returns-in_ok-now-in-len1-up-clause-agrees c =
    subst (AgreesWith c.undo_all.result) (undo_last record_backward c.args.records.now c.last-item.result c.args.text.now c.in_ok-now-in-len1-up.now.items _ (omega arith) c.last-item.is c.in_ok-now-in-len1-up.ensures.agrees refl)
    (rw c.deref.ensures.value at c.undo_all.ensures)

pub returns-in_ok-now-in-len1-up-clause-memory : goal.returns-in_ok-now-in-len1-up-clause-memory
returns-in_ok-now-in-len1-up-clause-memory c =
    let given = worked Backward c.last-item.result.edits c.args.text.now c.in_ok-now-in-len1-up.now.items c.in_ok-now-in-len1-up.ensures.agrees in
    always _ c.undo_all.result (last_given c.args.records.now c.last-item.result c.args.text.now (omega arith) c.last-item.is given)
