use Rattle.std.proofs.Common.{◌≡◌, List, [], Some, None, refl, subst, arith, sym}
use Rattle.std.proofs.lemmas.Result.{err_from_is_err_and}
use Rattle.edit_record.specs.Lists.Journal.{JournalEntry}
use Rattle.edit_record.specs.Swaps.Inner.MovingEditsView.{edits_now}
use Rattle.edit_record.proofs.SwapsLemmas.MovingToEnd.{MovedUpTo, did_swap, may_run_out, moves_none, move_more, move_none, none_is_moved, run_out_later}
use Rattle.edit_record.proofs.swaps.reorder.move_to_end.Goals as goal

pub returns-in_err-before : goal.returns-in_err-before
returns-in_err-before c =
    let first = c.args.first.now in
    let records = c.args.records.now in
    let p = err_from_is_err_and c.from_residual.result c.from_residual.ensures.1 in
    rw (p.1, p.2) (move_none first first records [] None 0 c.next-item.result c.in_err-before.field-0.0 refl c.in-len1-up.len_at_least c.next-item.is (none_is_moved first records) c.in_err-before.ensures)

pub returns-in_err-push : goal.returns-in_err-push
returns-in_err-push c =
    let first = c.args.first.now in
    let records = c.args.records.now in
    let p = err_from_is_err_and c.from_residual-in_err-push.result c.from_residual-in_err-push.ensures.1 in
    rw (p.1, p.2) (may_run_out first records [] None 0 c.next-item.result c.in-len1-up.len_at_least c.next-item.is (none_is_moved first records) (did_swap _ _ _ _ c.in_ok-before.ensures.0))

pub loop-i-init : goal.loop-i-init
loop-i-init c =
    let first = c.args.first.now in
    let records = c.args.records.now in
    let none = subst (λ (l : List JournalEntry). MovedUpTo first records l None 0) (sym c.new-reordered.ensures.items) (none_is_moved first records) in
    move_more first records c.new-reordered.result.items c.push.new.self.items None 0 c.next-item.result c.in_ok-before.before c.in_ok-before.after c.in-len1-up.len_at_least c.next-item.is none c.in_ok-before.ensures c.in_ok-push.ensures.items

pub returns-in_err-before-2 : goal.returns-in_err-before-2
returns-in_err-before-2 c =
    let first = c.args.first.now in
    let records = c.args.records.now in
    let p = err_from_is_err_and c.from_residual-in_err-before-2.result c.from_residual-in_err-before-2.ensures.1 in
    rw (p.1, p.2) (move_none first _ records c.loop-i.reordered.items (Some c.loop-i.moved) c.loop-i.i c.index-records-i.result c.in_err-before-2.field-0.0 refl (omega (arith, c.loop-i-test.true, c.leading-large.ensures.within)) c.index-records-i.is c.loop-i.invariant c.in_err-before-2.ensures)

pub returns-in_err-push-2 : goal.returns-in_err-push-2
returns-in_err-push-2 c =
    let p = err_from_is_err_and c.from_residual-in_err-push-2.result c.from_residual-in_err-push-2.ensures.1 in
    rw (p.1, p.2) (run_out_later c.args.first.now c.args.records.now c.loop-i.reordered.items (Some c.loop-i.moved) c.loop-i.i c.in-len1-up.len_at_least (omega (arith, c.loop-i.auto.i)) c.loop-i.invariant)

pub loop-i-preserved : goal.loop-i-preserved
loop-i-preserved c =
    move_more c.args.first.now c.args.records.now c.loop-i.reordered.items c.push-in-loop-i.new.self.items (Some c.loop-i.moved) c.loop-i.i c.index-records-i.result c.in_ok-before-2.before c.in_ok-before-2.after (omega (arith, c.loop-i-test.true, c.leading-large.ensures.within)) c.index-records-i.is c.loop-i.invariant c.in_ok-before-2.ensures c.in_ok-push-2.ensures.items

pub returns-in_err-moving : goal.returns-in_err-moving
returns-in_err-moving c =
    let p = err_from_is_err_and c.from_residual-in_err-moving.result c.from_residual-in_err-moving.ensures.1 in
    let at_large : c.loop-i.i ≡ c.leading-large.result = omega (arith, c.loop-i-test.false, c.loop-i.auto.i, c.leading-large.ensures.some) in
    let past = subst (λ n. MovedUpTo c.args.first.now c.args.records.now c.loop-i.reordered.items (Some c.loop-i.moved) n) at_large c.loop-i.invariant in
    rw (p.1, p.2) (move_none c.args.first.now c.loop-i.moved c.args.records.now c.loop-i.reordered.items (Some c.loop-i.moved) _ c.index-records-large.result c.in_err-moving.field-0.0 refl (omega (arith, c.if-large-records.false, c.leading-large.ensures.within)) c.index-records-large.is past c.in_err-moving.ensures.refused)

pub returns-in_err-before-3 : goal.returns-in_err-before-3
returns-in_err-before-3 c =
    let first = c.args.first.now in
    let records = c.args.records.now in
    let p = err_from_is_err_and c.from_residual-in_err-before-3.result c.from_residual-in_err-before-3.ensures.1 in
    rw (p.1, p.2) (moves_none first (edits_now c.loop-i-2.moving) records c.loop-i-2.reordered.items c.move_past-in-loop-i-2.new.self c.loop-i-2.i c.index-records-i-in-loop-i-2.result c.in_err-before-3.field-0.0 (omega (arith, c.loop-i-2-test.true)) c.index-records-i-in-loop-i-2.is c.loop-i-2.invariant.0 c.in_err-before-3.ensures)

pub returns-in_err-push-3 : goal.returns-in_err-push-3
returns-in_err-push-3 c =
    let p = err_from_is_err_and c.from_residual-in_err-push-3.result c.from_residual-in_err-push-3.ensures.1 in
    rw (p.1, p.2) (run_out_later c.args.first.now c.args.records.now c.loop-i-2.reordered.items (Some (edits_now c.loop-i-2.moving)) c.loop-i-2.i c.in-len1-up.len_at_least (omega (arith, c.loop-i-2.auto.i, c.leading-large.ensures.some)) c.loop-i-2.invariant.0)

pub loop-i-2-preserved : goal.loop-i-2-preserved
loop-i-2-preserved c =
    let h = c.in_ok-before-3.ensures in
    (move_more c.args.first.now c.args.records.now c.loop-i-2.reordered.items c.push-in-loop-i-2.new.self.items (Some (edits_now c.loop-i-2.moving)) c.loop-i-2.i c.index-records-i-in-loop-i-2.result c.in_ok-before-3.before _ (omega (arith, c.loop-i-2-test.true)) c.index-records-i-in-loop-i-2.is c.loop-i-2.invariant.0 (h.0, h.1) c.in_ok-push-3.ensures.items, h.2)
