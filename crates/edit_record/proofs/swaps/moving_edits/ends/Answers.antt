use Rattle.std.proofs.Common.{◌≡◌, ℕ, ◌+◌, ◌-◌, List, length, arith, sym, ap, ◌∙◌, subst}
use Rattle.std.specs.List.{AllByRecursion}
use Rattle.std.specs.Vec.{with_items}
use Rattle.std.proofs.lemmas.List.{with_items_is}
use Rattle.edit_record.specs.Lists.Validity.{new_len}
use Rattle.edit_record.specs.declared.swaps.relative_ends.EndOffset.{EndOffset}
use Rattle.edit_record.specs.Swaps.Inner.RelativeEnds.{ends_of, IsSmall, CanShift, shifted_from}
use Rattle.edit_record.proofs.SwapsLemmas.RelativeEnds.MovePastEach.{made_second}
use Rattle.edit_record.proofs.SwapsLemmas.RelativeEnds.EndsOfList.{Built, begins, next_of, built_small, built_can_shift, at_within, added_small, built_more}
use Rattle.edit_record.proofs.swaps.moving_edits.ends.Goals as goal

pub loop-i-init : goal.loop-i-init
loop-i-init c =
    let e = c.args.edits.now in
    let made = made_second e c.edits-edit-items.result.now c.edits-edit-items.ensures.same c.edits-edit-items.ensures.disjoint in
    begins e.old_len (new_len e) (length c.edits.result.now) e.entries c.in_ok-ends.ends.items made (c.in_ok-ends.ensures.items_if_clones_equal (λ y h. h)) (ap length c.edits.ensures.same)

pub shift_from-requires-clause-small : goal.shift_from-requires-clause-small
shift_from-requires-clause-small c =
    let k = next_of c.args.edits.now c.edits-edit-items.result.now c.loop-i.i c.loop-i.old c.edit-item.result (ends_of c.loop-i.ends.items) c.edits-edit-items.ensures.same c.edits-edit-items.ensures.disjoint c.loop-i-test.true c.edit-item.is c.loop-i.invariant.0 in
    subst (λ (l : List EndOffset). AllByRecursion IsSmall (ends_of l)) (sym c.deref_mut.ensures.value) (built_small _ _ _ _ _ k.built k.small k.few)

pub shift_from-requires-clause-later : goal.shift_from-requires-clause-later
shift_from-requires-clause-later c =
    let k = next_of c.args.edits.now c.edits-edit-items.result.now c.loop-i.i c.loop-i.old c.edit-item.result (ends_of c.loop-i.ends.items) c.edits-edit-items.ensures.same c.edits-edit-items.ensures.disjoint c.loop-i-test.true c.edit-item.is c.loop-i.invariant.0 in
    let of = k.fits in
    let w = at_within _ _ _ _ _ k.built k.small k.few _ _ k.left in
    let a = added_small _ _ _ _ _ k.built k.small k.few _ _ k.left in
    let r1 = ap length c.removed.ensures in
    let a1 = ap length c.added.ensures in
    let t = c.at.ensures in
    (omega (arith, w, r1, t, of), omega (arith, w, a, a1, t, of))

pub shift_from-requires-clause-can_shift : goal.shift_from-requires-clause-can_shift
shift_from-requires-clause-can_shift c =
    let k = next_of c.args.edits.now c.edits-edit-items.result.now c.loop-i.i c.loop-i.old c.edit-item.result (ends_of c.loop-i.ends.items) c.edits-edit-items.ensures.same c.edits-edit-items.ensures.disjoint c.loop-i-test.true c.edit-item.is c.loop-i.invariant.0 in
    subst (λ (l : List EndOffset). CanShift 0 c.loop-i.i (ends_of l)) (sym c.deref_mut.ensures.value) (built_can_shift _ _ _ _ _ k.built k.small k.few)

pub loop-i-preserved : goal.loop-i-preserved
loop-i-preserved c =
    let y = c.edit-item.result in
    let i = c.loop-i.i in
    let k = next_of c.args.edits.now c.edits-edit-items.result.now c.loop-i.i c.loop-i.old c.edit-item.result (ends_of c.loop-i.ends.items) c.edits-edit-items.ensures.same c.edits-edit-items.ensures.disjoint c.loop-i-test.true c.edit-item.is c.loop-i.invariant.0 in
    let value = c.deref_mut.ensures.value in
    let written = with_items_is c.loop-i.ends c.shift_from.new.run (c.shift_from.auto.run ∙ c.deref_mut.ensures.len) in
    let old = c.loop-i.old in
    let later : EndOffset = record { old = (c.at.result - old) + length c.removed.result.now; new = (c.at.result - old) + length c.added.result.now } in
    let later_is : later ≡ record { old = (y.at - old) + length y.removed; new = (y.at - old) + length y.added } =
    λ j. record { old = (c.at.ensures j - old) + length (c.removed.ensures j); new = (c.at.ensures j - old) + length (c.added.ensures j) } in
    let next_is = ap ends_of written ∙ c.shift_from.ensures ∙ ap (λ (l : List EndOffset). shifted_from i later 0 (ends_of l)) value in
    let next = ends_of (with_items c.loop-i.ends c.shift_from.new.run).items in
    let more = built_more _ _ _ _ _ k.built k.small k.few _ _ k.left later next later_is next_is in
    let old_is : c.at-in-loop-i.result + length c.removed-in-loop-i.result.now ≡ y.at + length y.removed = λ j. c.at-in-loop-i.ensures j + length (c.removed-in-loop-i.ensures j) in (
      subst (λ (o : ℕ). Built c.args.edits.now.old_len c.args.edits.now.entries (i + 1) o next) (sym old_is) more,
      ap length written ∙ c.shift_from.auto.run ∙ ap length value ∙ c.loop-i.invariant.1,
    )
