use Rattle.std.proofs.Common.{◌≡◌, ◌+◌, ◌-◌, ℕ, List, [], length, drop, arith, refl, sym, ap, ◌∙◌, subst}
use Rattle.std.specs.List.{AllByRecursion}
use Rattle.std.specs.Vec.{with_items}
use Rattle.std.proofs.lemmas.List.{drop_all, with_items_is}
use Rattle.edit_record.specs.Lists.Pieces.{EditEntry}
use Rattle.edit_record.specs.declared.swaps.moving_edits.MovingEdits.{MovingEdits}
use Rattle.edit_record.specs.declared.swaps.relative_ends.EndOffset.{EndOffset}
use Rattle.edit_record.specs.Swaps.Inner.MovingEditsView.{edits_now}
use Rattle.edit_record.specs.Swaps.Inner.RelativeEnds.{ends_of, CanShift, IsSmall, shifted_from}
use Rattle.edit_record.proofs.SwapsLemmas.RelativeEnds.MovePastEach.{PassingEach, made_second, passing_end, passing_start, can_shift_here, spot, next_edit_step, turned}
use Rattle.edit_record.proofs.swaps.moving_edits.MovingEdits.move_past_each.Goals as goal

pub loop-edit-init : goal.loop-edit-init
loop-edit-init c =
    let b = c.args.second.now in
    let made = made_second b c.edits-edit-items.result.now c.edits-edit-items.ensures.same c.edits-edit-items.ensures.disjoint in
    passing_start c.args.self.now b c.requires.well_formed c.requires.lengths_match made c.in_ok-seconds.seconds.items c.in_ok-seconds.ensures.items

pub overflow_add-at : goal.overflow_add-at
overflow_add-at c =
    let n = c.loop-edit.self in
    let inserted_len = c.loop-edit.added in
    let deleted_len = c.loop-edit.removed in
    let y = c.edit-item.result in
    let t = next_edit_step c.args.self.now n c.args.second.now c.loop-edit.seconds.items c.loop-edit.edit-index y c.edits-edit-items.result.now inserted_len deleted_len c.requires.well_formed c.requires.lengths_match c.edits-edit-items.ensures.same c.edits-edit-items.ensures.disjoint c.loop-edit-test.true c.edit-item.is c.loop-edit.invariant in
    let y_at = c.at.ensures in
    omega (arith, t.inserted_small, t.at_small, y_at)

pub overflow_sub-at : goal.overflow_sub-at
overflow_sub-at c =
    let n = c.loop-edit.self in
    let inserted_len = c.loop-edit.added in
    let deleted_len = c.loop-edit.removed in
    let y = c.edit-item.result in
    let t = next_edit_step c.args.self.now n c.args.second.now c.loop-edit.seconds.items c.loop-edit.edit-index y c.edits-edit-items.result.now inserted_len deleted_len c.requires.well_formed c.requires.lengths_match c.edits-edit-items.ensures.same c.edits-edit-items.ensures.disjoint c.loop-edit-test.true c.edit-item.is c.loop-edit.invariant in
    let y_at = c.at.ensures in
    omega (arith, t.deleted_le, y_at)

pub partition_before-count-requires : goal.partition_before-count-requires
partition_before-count-requires c =
    let n = c.loop-edit.self in
    let inserted_len = c.loop-edit.added in
    let deleted_len = c.loop-edit.removed in
    let y = c.edit-item.result in
    let t = next_edit_step c.args.self.now n c.args.second.now c.loop-edit.seconds.items c.loop-edit.edit-index y c.edits-edit-items.result.now inserted_len deleted_len c.requires.well_formed c.requires.lengths_match c.edits-edit-items.ensures.same c.edits-edit-items.ensures.disjoint c.loop-edit-test.true c.edit-item.is c.loop-edit.invariant in
    let y_at = c.at.ensures in
    subst (λ (l : List EndOffset). AllByRecursion IsSmall (ends_of l)) (sym c.deref.ensures.value) t.small

pub overflow_sub-place : goal.overflow_sub-place
overflow_sub-place c =
    let n = c.loop-edit.self in
    let inserted_len = c.loop-edit.added in
    let deleted_len = c.loop-edit.removed in
    let y = c.edit-item.result in
    let t = next_edit_step c.args.self.now n c.args.second.now c.loop-edit.seconds.items c.loop-edit.edit-index y c.edits-edit-items.result.now inserted_len deleted_len c.requires.well_formed c.requires.lengths_match c.edits-edit-items.ensures.same c.edits-edit-items.ensures.disjoint c.loop-edit-test.true c.edit-item.is c.loop-edit.invariant in
    let y_at = c.at.ensures in
    let at = c.at.result + inserted_len - deleted_len in
    let place = c.partition_before-count.result in
    let s = spot c.args.self.now n c.args.second.now c.loop-edit.seconds.items y _ inserted_len deleted_len t at place.count place.last place.next c.deref.result.now (omega (arith, t.deleted_le, y_at)) c.deref.ensures.value c.partition_before-count.ensures in
    omega (arith, t.inserted_small, t.at_small, t.deleted_le, s.last_before, s.is, s.small, y_at)

pub overflow_add-place : goal.overflow_add-place
overflow_add-place c =
    let n = c.loop-edit.self in
    let inserted_len = c.loop-edit.added in
    let deleted_len = c.loop-edit.removed in
    let y = c.edit-item.result in
    let t = next_edit_step c.args.self.now n c.args.second.now c.loop-edit.seconds.items c.loop-edit.edit-index y c.edits-edit-items.result.now inserted_len deleted_len c.requires.well_formed c.requires.lengths_match c.edits-edit-items.ensures.same c.edits-edit-items.ensures.disjoint c.loop-edit-test.true c.edit-item.is c.loop-edit.invariant in
    let y_at = c.at.ensures in
    let at = c.at.result + inserted_len - deleted_len in
    let place = c.partition_before-count.result in
    let s = spot c.args.self.now n c.args.second.now c.loop-edit.seconds.items y _ inserted_len deleted_len t at place.count place.last place.next c.deref.result.now (omega (arith, t.deleted_le, y_at)) c.deref.ensures.value c.partition_before-count.ensures in
    omega (arith, t.inserted_small, t.at_small, t.deleted_le, s.last_before, s.is, s.small, y_at)

pub overflow_add-place-in-loop-edit : goal.overflow_add-place-in-loop-edit
overflow_add-place-in-loop-edit c =
    let n = c.loop-edit.self in
    let inserted_len = c.loop-edit.added in
    let deleted_len = c.loop-edit.removed in
    let y = c.edit-item.result in
    let t = next_edit_step c.args.self.now n c.args.second.now c.loop-edit.seconds.items c.loop-edit.edit-index y c.edits-edit-items.result.now inserted_len deleted_len c.requires.well_formed c.requires.lengths_match c.edits-edit-items.ensures.same c.edits-edit-items.ensures.disjoint c.loop-edit-test.true c.edit-item.is c.loop-edit.invariant in
    let y_at = c.at.ensures in
    let at = c.at.result + inserted_len - deleted_len in
    let place = c.partition_before-count.result in
    let s = spot c.args.self.now n c.args.second.now c.loop-edit.seconds.items y _ inserted_len deleted_len t at place.count place.last place.next c.deref.result.now (omega (arith, t.deleted_le, y_at)) c.deref.ensures.value c.partition_before-count.ensures in
    omega (arith, t.inserted_small, t.at_small, t.deleted_le, s.last_before, s.is, s.small, y_at)

pub overflow_sub-place-in-loop-edit : goal.overflow_sub-place-in-loop-edit
overflow_sub-place-in-loop-edit c =
    let n = c.loop-edit.self in
    let inserted_len = c.loop-edit.added in
    let deleted_len = c.loop-edit.removed in
    let y = c.edit-item.result in
    let t = next_edit_step c.args.self.now n c.args.second.now c.loop-edit.seconds.items c.loop-edit.edit-index y c.edits-edit-items.result.now inserted_len deleted_len c.requires.well_formed c.requires.lengths_match c.edits-edit-items.ensures.same c.edits-edit-items.ensures.disjoint c.loop-edit-test.true c.edit-item.is c.loop-edit.invariant in
    let y_at = c.at.ensures in
    let at = c.at.result + inserted_len - deleted_len in
    let place = c.partition_before-count.result in
    let s = spot c.args.self.now n c.args.second.now c.loop-edit.seconds.items y _ inserted_len deleted_len t at place.count place.last place.next c.deref.result.now (omega (arith, t.deleted_le, y_at)) c.deref.ensures.value c.partition_before-count.ensures in
    omega (arith, t.inserted_small, t.at_small, t.deleted_le, s.last_before, s.is, s.small, y_at)

pub shift_from-requires-clause-small : goal.shift_from-requires-clause-small
shift_from-requires-clause-small c =
    let n = c.loop-edit.self in
    let inserted_len = c.loop-edit.added in
    let deleted_len = c.loop-edit.removed in
    let y = c.edit-item.result in
    let t = next_edit_step c.args.self.now n c.args.second.now c.loop-edit.seconds.items c.loop-edit.edit-index y c.edits-edit-items.result.now inserted_len deleted_len c.requires.well_formed c.requires.lengths_match c.edits-edit-items.ensures.same c.edits-edit-items.ensures.disjoint c.loop-edit-test.true c.edit-item.is c.loop-edit.invariant in
    let y_at = c.at.ensures in
    subst (λ (l : List EndOffset). AllByRecursion IsSmall (ends_of l)) (sym c.deref_mut.ensures.value) t.small

pub shift_from-requires-clause-later : goal.shift_from-requires-clause-later
shift_from-requires-clause-later c =
    let n = c.loop-edit.self in
    let inserted_len = c.loop-edit.added in
    let deleted_len = c.loop-edit.removed in
    let y = c.edit-item.result in
    let t = next_edit_step c.args.self.now n c.args.second.now c.loop-edit.seconds.items c.loop-edit.edit-index y c.edits-edit-items.result.now inserted_len deleted_len c.requires.well_formed c.requires.lengths_match c.edits-edit-items.ensures.same c.edits-edit-items.ensures.disjoint c.loop-edit-test.true c.edit-item.is c.loop-edit.invariant in
    let y_at = c.at.ensures in
    let added_is = ap length c.added-more.ensures in
    (omega (arith, t.added_small, added_is), omega (arith, t.added_small, added_is))

pub shift_from-requires-clause-can_shift : goal.shift_from-requires-clause-can_shift
shift_from-requires-clause-can_shift c =
    let n = c.loop-edit.self in
    let inserted_len = c.loop-edit.added in
    let deleted_len = c.loop-edit.removed in
    let y = c.edit-item.result in
    let t = next_edit_step c.args.self.now n c.args.second.now c.loop-edit.seconds.items c.loop-edit.edit-index y c.edits-edit-items.result.now inserted_len deleted_len c.requires.well_formed c.requires.lengths_match c.edits-edit-items.ensures.same c.edits-edit-items.ensures.disjoint c.loop-edit-test.true c.edit-item.is c.loop-edit.invariant in
    let y_at = c.at.ensures in
    let at = c.at.result + inserted_len - deleted_len in
    let place = c.partition_before-count.result in
    let r = can_shift_here c.args.self.now n c.args.second.now c.loop-edit.seconds.items y _ inserted_len deleted_len t at place.count place.last place.next c.deref.result.now (omega (arith, t.deleted_le, y_at)) c.deref.ensures.value c.partition_before-count.ensures c.requires.apart in
    subst (λ (k : ℕ). CanShift k place.count (ends_of c.deref_mut.result.now)) (sym (ap length c.removed-less.ensures)) (subst (λ (l : List EndOffset). CanShift (length y.removed) place.count (ends_of l)) (sym c.deref_mut.ensures.value) r)

pub overflow_add-added : goal.overflow_add-added
overflow_add-added c =
    let n = c.loop-edit.self in
    let inserted_len = c.loop-edit.added in
    let deleted_len = c.loop-edit.removed in
    let y = c.edit-item.result in
    let t = next_edit_step c.args.self.now n c.args.second.now c.loop-edit.seconds.items c.loop-edit.edit-index y c.edits-edit-items.result.now inserted_len deleted_len c.requires.well_formed c.requires.lengths_match c.edits-edit-items.ensures.same c.edits-edit-items.ensures.disjoint c.loop-edit-test.true c.edit-item.is c.loop-edit.invariant in
    let y_at = c.at.ensures in
    let added_is = ap length c.added-more.ensures in
    omega (arith, t.inserted_small, t.added_small, added_is)

pub loop-edit-preserved : goal.loop-edit-preserved
loop-edit-preserved c =
    let n = c.loop-edit.self in
    let inserted_len = c.loop-edit.added in
    let deleted_len = c.loop-edit.removed in
    let y = c.edit-item.result in
    let t = next_edit_step c.args.self.now n c.args.second.now c.loop-edit.seconds.items c.loop-edit.edit-index y c.edits-edit-items.result.now inserted_len deleted_len c.requires.well_formed c.requires.lengths_match c.edits-edit-items.ensures.same c.edits-edit-items.ensures.disjoint c.loop-edit-test.true c.edit-item.is c.loop-edit.invariant in
    let y_at = c.at.ensures in
    let at = c.at.result + inserted_len - deleted_len in
    let place = c.partition_before-count.result in
    let m = c.args.self.now in
    let b = c.args.second.now in
    let removed_is = ap length c.removed-less.ensures in
    let added_is = ap length c.added-more.ensures in
    let rest = drop (c.loop-edit.edit-index + 1) b.entries in
    let more = c.push.new.self.items in
    let value = c.deref_mut.ensures.value in
    let ends_now = c.shift_from.ensures ∙ (λ i. shifted_from place.count (record { old = added_is i; new = added_is i }) (removed_is i) (ends_of (value i))) in
    let written : (with_items n.ends c.shift_from.new.run).items ≡ c.shift_from.new.run = with_items_is n.ends c.shift_from.new.run (c.shift_from.auto.run ∙ c.deref_mut.ensures.len) in
    let k : MovingEdits = record { old_len = n.old_len; new_len = n.new_len; edits = n.edits; ends = with_items n.ends c.shift_from.new.run } in
    let next =
    turned m n b c.loop-edit.seconds.items y rest inserted_len deleted_len t at place.count place.last place.next c.deref.result.now (omega (arith, t.deleted_le, y_at)) c.deref.ensures.value c.partition_before-count.ensures c.requires.apart k more c.in_ok-copy_at.field-0 c.in_ok-push.ensures.items c.in_ok-copy_at.ensures (ap ends_of written ∙ ends_now) refl (ap length written ∙ c.shift_from.auto.run ∙ ap length value) refl refl in
    subst (λ (z : ℕ). PassingEach (edits_now m) b m k more rest (inserted_len + z) (deleted_len + length c.removed-less.result.now)) (sym added_is)
    (subst (λ (z : ℕ). PassingEach (edits_now m) b m k more rest (inserted_len + length y.added) (deleted_len + z)) (sym removed_is) next)

pub returns : goal.returns
returns c =
    let m = c.args.self.now in
    let b = c.args.second.now in
    let made = made_second b c.edits-edit-items.result.now c.edits-edit-items.ensures.same c.edits-edit-items.ensures.disjoint in
    let len = ap length c.edits-edit-items.ensures.same in
    let none : drop c.loop-edit.edit-index b.entries ≡ [] = drop_all c.loop-edit.edit-index b.entries (omega (arith, c.loop-edit-test.false, len)) in
    passing_end m b c.requires.well_formed c.requires.lengths_match made c.loop-edit.self c.loop-edit.seconds.items c.loop-edit.added c.loop-edit.removed
    (subst (λ (l : List EditEntry). PassingEach (edits_now m) b m c.loop-edit.self c.loop-edit.seconds.items l c.loop-edit.added c.loop-edit.removed) none c.loop-edit.invariant)
