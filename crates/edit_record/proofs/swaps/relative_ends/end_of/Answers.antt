use Rattle.std.proofs.Common.{arith}
use Rattle.edit_record.specs.Swaps.Inner.RelativeEnds.{ends_of}
use Rattle.edit_record.proofs.SwapsLemmas.RelativeEnds.RelativeEndsLemmas.{split_halves}
use Rattle.edit_record.proofs.SwapsLemmas.RelativeEnds.BinarySearch.{seeking, sought_small, sought, seeks_right, seeks_left}
use Rattle.edit_record.proofs.swaps.relative_ends.end_of.Goals as goal

pub halves-init : goal.halves-init
halves-init c = seeking c.args.number c.args.run.now c.requires.in_range

pub plus-end-requires-clause-old : goal.plus-end-requires-clause-old
plus-end-requires-clause-old c =
    let h = split_halves c.halves.left.now c.split_at.result.0.now c.split_at.result.1.now c.split_at.ensures.front c.split_at.ensures.back c.in-len1-up.len_at_least in
    let s = sought_small c.args.number (ends_of c.args.run.now) _ _ _ _ _ _ c.halves.invariant h c.requires.small in
    omega (arith, s.0)

pub plus-end-requires-clause-new : goal.plus-end-requires-clause-new
plus-end-requires-clause-new c =
    let h = split_halves c.halves.left.now c.split_at.result.0.now c.split_at.result.1.now c.split_at.ensures.front c.split_at.ensures.back c.in-len1-up.len_at_least in
    let s = sought_small c.args.number (ends_of c.args.run.now) _ _ _ _ _ _ c.halves.invariant h c.requires.small in
    omega (arith, s.1)

pub returns-then-i-before : goal.returns-then-i-before
returns-then-i-before c =
    let h = split_halves c.halves.left.now c.split_at.result.0.now c.split_at.result.1.now c.split_at.ensures.front c.split_at.ensures.back c.in-len1-up.len_at_least in
    sought c.args.number (ends_of c.args.run.now) _ _ _ _ _ c.plus-end.result _ c.halves.invariant h c.plus-end.ensures c.if-i-before.true

pub halves-preserved-then-before-i : goal.halves-preserved-then-before-i
halves-preserved-then-before-i c =
    let h = split_halves c.halves.left.now c.split_at.result.0.now c.split_at.result.1.now c.split_at.ensures.front c.split_at.ensures.back c.in-len1-up.len_at_least in
    seeks_right c.args.number (ends_of c.args.run.now) _ _ _ _ _ c.plus-end.result _ c.halves.invariant h c.plus-end.ensures c.if-before-i.true

pub halves-preserved : goal.halves-preserved
halves-preserved c =
    let h = split_halves c.halves.left.now c.split_at.result.0.now c.split_at.result.1.now c.split_at.ensures.front c.split_at.ensures.back c.in-len1-up.len_at_least in
    let ne = c.if-i-before.false in let le = c.if-before-i.false in
    seeks_left c.args.number (ends_of c.args.run.now) _ _ _ _ _ _ c.halves.invariant h (omega (arith, le, ne))
