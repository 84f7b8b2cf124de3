use Rattle.std.proofs.Common.{subst, Err}
use Rattle.std.proofs.lemmas.Result.{err_from_is_err_and}
use Rattle.edit_record.specs.Lists.Pieces.{EditList}
use Rattle.edit_record.specs.Swaps.Swap.{IsSwapResult}
use Rattle.edit_record.specs.Swaps.MoveToEndResult.{CanSwap}
use Rattle.edit_record.proofs.swaps.reorder.start_moving.Goals as goal

pub move_fault-requires : goal.move_fault-requires
move_fault-requires c = subst (λ (b : EditList). IsSwapResult c.args.moved b (Err c.in-Err.fault)) c.edits.ensures c.in-Err.ensures.refused

pub returns-in_err-new-clause-refused : goal.returns-in_err-new-clause-refused
returns-in_err-new-clause-refused c =
    let able = subst (λ (b : EditList). CanSwap c.args.moved b) c.edits.ensures c.in_default.ensures.swappable in
    let p = err_from_is_err_and c.from_residual.result c.from_residual.ensures.1 in
    rw (p.1, p.2) able
