-- The record is the one of this number, and the slice after it has the records after it.
use Rattle.std.proofs.Common.{arith, subst, Err}
use Rattle.edit_record.specs.Lists.Pieces.{EditList}
use Rattle.edit_record.specs.Lists.ChangeResults.{IsChangeCallResult}
use Rattle.edit_record.specs.declared.lists.direction.Direction.TheVariants.{Backward}
use Rattle.edit_record.specs.Swaps.MoveToEndResult.{IsMoveToEndResult}
use Rattle.edit_record.specs.Lists.Journal.{edits_of}
use Rattle.tf_session.proofs.RemoveRecord.{rest_of, made, not_back, refuses, short}
use Rattle.tf_session.proofs.taking.without_existing_record.Goals as goal

pub returns-in-Ok-undo_edits-clause-rewrites : goal.returns-in-Ok-undo_edits-clause-rewrites
returns-in-Ok-undo_edits-clause-rewrites c =
    made c.args.number c.args.records.now c.index-records-number.result c.requires.some c.requires.there c.index-records-number.is
    c.args.text.now c.in-Ok-undo_edits.text.items c.in-Ok.others.items _ (rw c.edits.ensures at c.in-Ok.ensures.0) c.in-Ok.ensures.1
    (rw (c.edits_at_end.ensures, c.edits-in-Ok.ensures) at c.in-Ok-undo_edits.ensures.pieces) (rw (c.edits_at_end.ensures, c.edits-in-Ok.ensures) at c.in-Ok-undo_edits.ensures.only)

pub returns-in-Err-undo_edits-clause-refused : goal.returns-in-Err-undo_edits-clause-refused
returns-in-Err-undo_edits-clause-refused c =
    let at_end = rw c.edits-in-Ok.ensures at c.edits_at_end.ensures in
    let refused = subst (λ (e : EditList). IsChangeCallResult Backward e c.args.text.now (Err c.in-Err-undo_edits.refused)) at_end c.in-Err-undo_edits.ensures.pieces in
    rw c.from.ensures (not_back c.args.number c.args.records.now c.index-records-number.result c.requires.some c.requires.there c.index-records-number.is
    c.args.text.now (edits_of c.in-Ok.others.items) _ c.in-Err-undo_edits.refused (rw c.edits.ensures at c.in-Ok.ensures.0) refused)

pub fault_of_move-requires : goal.fault_of_move-requires
fault_of_move-requires c =
    let s = short c.args.number c.args.records.now c.edits.result.now c.in-Err.fault c.requires.there c.in-Err.ensures in
    let l = c.requires.small in
    omega (arith, s, l)

pub returns-in-Err-clause-refused : goal.returns-in-Err-clause-refused
returns-in-Err-clause-refused c =
    rw c.fault_of_move.ensures (refuses c.args.number c.args.records.now c.index-records-number.result c.requires.some c.requires.there c.index-records-number.is
    c.args.text.now c.in-Err.fault (subst (λ (a : EditList). IsMoveToEndResult a (rest_of c.args.number c.args.records.now) (Err c.in-Err.fault)) c.edits.ensures c.in-Err.ensures))
