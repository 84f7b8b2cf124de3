use Rattle.std.proofs.Common.{arith, drop}
use Rattle.edit_record.specs.Swaps.Inner.SwapStateView.{state}
use Rattle.edit_record.proofs.ListsLemmas.Placed.{drop_item}
use Rattle.edit_record.proofs.SwapsLemmas.SwapSteps.{fits_first, fair_done}
use Rattle.edit_record.proofs.swaps.swap_state.SwapState.take_first.Goals as goal

pub relocate-requires-clause-fits : goal.relocate-requires-clause-fits
relocate-requires-clause-fits c =
    let e = drop_item c.args.xs.now 0 c.x-item.result (omega arith) c.x-item.is in
    let h = fits_first (state c.args.self.now) c.x-item.result (drop 1 c.args.xs.now) c.args.ys.now c.args.xs.now c.requires e in
    let one = h.one in let two = h.two in
    omega arith

pub skip_first-requires : goal.skip_first-requires
skip_first-requires c = fair_done _ _ (state c.args.self.now) c.args.xs.now c.args.ys.now c.requires
