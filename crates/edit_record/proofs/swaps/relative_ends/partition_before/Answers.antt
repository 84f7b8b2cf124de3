use Rattle.std.proofs.Common.{arith}
use Rattle.edit_record.specs.Swaps.Inner.RelativeEnds.{ends_of}
use Rattle.edit_record.proofs.SwapsLemmas.RelativeEnds.RelativeEndsLemmas.{split_halves}
use Rattle.edit_record.proofs.SwapsLemmas.RelativeEnds.BinarySearch.{searching, middle_small, count_fits, search_right, search_left}
use Rattle.edit_record.proofs.swaps.relative_ends.partition_before.Goals as goal

pub halves-init : goal.halves-init
halves-init c = searching c.args.at c.args.run.now

pub plus-end-requires-clause-old : goal.plus-end-requires-clause-old
plus-end-requires-clause-old c =
    let rest = c.split_at.result.1.now in
    let h = split_halves c.halves.left.now c.split_at.result.0.now rest c.split_at.ensures.front c.split_at.ensures.back c.in-len1-up.len_at_least in
    let s = middle_small c.args.at (ends_of c.args.run.now) _ _ _ _ _ _ _ c.halves.invariant h c.requires in
    omega (arith, s.0)

pub plus-end-requires-clause-new : goal.plus-end-requires-clause-new
plus-end-requires-clause-new c =
    let rest = c.split_at.result.1.now in
    let h = split_halves c.halves.left.now c.split_at.result.0.now rest c.split_at.ensures.front c.split_at.ensures.back c.in-len1-up.len_at_least in
    let s = middle_small c.args.at (ends_of c.args.run.now) _ _ _ _ _ _ _ c.halves.invariant h c.requires in
    omega (arith, s.1)

pub overflow_add-count-then-end-at : goal.overflow_add-count-then-end-at
overflow_add-count-then-end-at c =
    let rest = c.split_at.result.1.now in
    let h = split_halves c.halves.left.now c.split_at.result.0.now rest c.split_at.ensures.front c.split_at.ensures.back c.in-len1-up.len_at_least in
    let n = count_fits c.args.at c.args.run.now _ _ _ _ _ _ _ c.halves.invariant h in
    omega (arith, n)

pub halves-preserved-then-end-at : goal.halves-preserved-then-end-at
halves-preserved-then-end-at c =
    let rest = c.split_at.result.1.now in
    let h = split_halves c.halves.left.now c.split_at.result.0.now rest c.split_at.ensures.front c.split_at.ensures.back c.in-len1-up.len_at_least in
    search_right c.args.at (ends_of c.args.run.now) _ _ _ _ _ _ c.plus-end.result _ c.halves.invariant h c.plus-end.ensures c.if-end-at.true

pub halves-preserved : goal.halves-preserved
halves-preserved c =
    let rest = c.split_at.result.1.now in
    let h = split_halves c.halves.left.now c.split_at.result.0.now rest c.split_at.ensures.front c.split_at.ensures.back c.in-len1-up.len_at_least in
    search_left c.args.at (ends_of c.args.run.now) _ _ _ _ _ _ c.plus-end.result _ c.halves.invariant h c.plus-end.ensures c.if-end-at.false
