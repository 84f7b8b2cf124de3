use Rattle.std.proofs.Common.{subst, Err}
use Rattle.edit_record.specs.Lists.Pieces.{EditList}
use Rattle.edit_record.specs.Swaps.Swap.{IsSwapResult}
use Rattle.edit_record.proofs.swaps.reorder.move_past.Goals as goal

pub move_fault-requires : goal.move_fault-requires
move_fault-requires c = subst (λ (b : EditList). IsSwapResult c.args.edits.now b (Err c.in-Err.fault)) c.edits.ensures c.in-Err.ensures
