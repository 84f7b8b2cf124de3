use Rattle.std.proofs.Common.{arith, drop}
use Rattle.edit_record.specs.Swaps.Inner.SwapStateView.{state}
use Rattle.edit_record.proofs.ListsLemmas.Placed.{drop_item}
use Rattle.edit_record.proofs.SwapsLemmas.SwapSteps.{fits_second}
use Rattle.edit_record.proofs.swaps.swap_state.SwapState.skip_second.Goals as goal

pub overflow_add-self : goal.overflow_add-self
overflow_add-self c =
    let e = drop_item c.args.ys.now 0 c.y-item.result (omega arith) c.y-item.is in
    let h = fits_second (state c.args.self.now) c.args.xs.now c.y-item.result (drop 1 c.args.ys.now) c.args.ys.now c.requires e in
    let one = h.one in let two = h.two in
    omega arith

pub overflow_add-self-in-len1-up : goal.overflow_add-self-in-len1-up
overflow_add-self-in-len1-up c =
    let e = drop_item c.args.ys.now 0 c.y-item.result (omega arith) c.y-item.is in
    let h = fits_second (state c.args.self.now) c.args.xs.now c.y-item.result (drop 1 c.args.ys.now) c.args.ys.now c.requires e in
    let one = h.one in let two = h.two in
    omega arith

pub overflow_add-self-in-len1-up-3 : goal.overflow_add-self-in-len1-up-3
overflow_add-self-in-len1-up-3 c =
    let e = drop_item c.args.ys.now 0 c.y-item.result (omega arith) c.y-item.is in
    let h = fits_second (state c.args.self.now) c.args.xs.now c.y-item.result (drop 1 c.args.ys.now) c.args.ys.now c.requires e in
    let one = h.one in let two = h.two in
    omega arith

pub overflow_add-self-in-len1-up-4 : goal.overflow_add-self-in-len1-up-4
overflow_add-self-in-len1-up-4 c =
    let e = drop_item c.args.ys.now 0 c.y-item.result (omega arith) c.y-item.is in
    let h = fits_second (state c.args.self.now) c.args.xs.now c.y-item.result (drop 1 c.args.ys.now) c.args.ys.now c.requires e in
    let one = h.one in let two = h.two in
    omega arith
