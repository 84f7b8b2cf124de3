use Rattle.std.proofs.Common.{arith, drop}
use Rattle.edit_record.specs.Swaps.Inner.SwapStateView.{state}
use Rattle.edit_record.proofs.ListsLemmas.Placed.{drop_item}
use Rattle.edit_record.proofs.SwapsLemmas.SwapSteps.{fits_second, fair_done}
use Rattle.edit_record.proofs.swaps.swap_state.SwapState.take_second.Goals as goal

pub relocate-requires-clause-fits : goal.relocate-requires-clause-fits
relocate-requires-clause-fits c =
    let e = drop_item c.args.ys.now 0 c.y-item.result (omega arith) c.y-item.is in
    let h = fits_second (state c.args.self.now) c.args.xs.now c.y-item.result (drop 1 c.args.ys.now) c.args.ys.now c.requires e in
    let one = h.one in let two = h.two in
    omega arith

pub skip_second-requires : goal.skip_second-requires
skip_second-requires c = fair_done _ _ (state c.args.self.now) c.args.xs.now c.args.ys.now c.requires
