use Rattle.std.proofs.Common.{◌≡◌, ℕ, ◌+◌, ◌-◌, ◌<◌, List, Bool, length, take, arith, sym, ap, ◌∙◌, refl, subst}
use Rattle.std.proofs.lemmas.List.{nil_from_length}
use Rattle.std.proofs.lemmas.Bool.{false≢true}
use Rattle.edit_record.specs.Lists.Pieces.{EditEntry, EditList}
use Rattle.edit_record.specs.Lists.Validity.{AreValidEdits, new_len}
use Rattle.edit_record.specs.Squashes.Squash.{IsContradiction}
use Rattle.edit_record.specs.Squashes.Inner.MergeState.{state}
use Rattle.edit_record.specs.Squashes.Inner.Merge.{State, common_len, prepare_next, take_next}
use Rattle.edit_record.proofs.SquashesLemmas.Merged.{Kept, Progress, progress_start, ready_for, takes_one, continues_with, contradicts, one_taken, ends_well}
use Rattle.edit_record.proofs.squashes.squash_lists.merge_nonempty.Goals as goal

-- the same list with its lengths as callers know them
are_edits : (old_len new new' : ℕ) (es es' : List EditEntry) → AreValidEdits old_len new es → new ≡ new' → es ≡ es' → AreValidEdits old_len new' es'
are_edits old_len new new' es es' h n e = rw (← n, ← e) h

-- a step of the loop takes an edit
step : (la lb : ℕ) (a b : List EditEntry) (s s' : State) (xs ys : List EditEntry) (is_first : Bool) (q : State × List EditEntry × List EditEntry) → 0 < length xs + length ys → Progress la lb a b s xs ys → (is_first, s') ≡ prepare_next s xs ys → q ≡ take_next is_first s' xs ys
    → Kept la lb a b q.0 q.1 q.2 × (length q.1 + length q.2 < length xs + length ys)
step la lb a b s s' xs ys is_first q more p e f =
    let k = takes_one la lb a b s s' xs ys is_first q (omega arith) p e f in
    let less = k.1 in
    (k.0, omega arith)

-- the number of the edit that was taken last, by the slices
at_edit : (a b : EditList) (es ys : List EditEntry) → es ≡ b.entries → IsContradiction a b (length b.entries - length ys - 1) → IsContradiction a b (length es - length ys - 1)
at_edit a b es ys same h =
    let n = ap length same in
    let k : length b.entries - length ys - 1 ≡ length es - length ys - 1 = omega arith in
    subst (IsContradiction a b) k h

pub edits-init : goal.edits-init
edits-init c =
    let first = c.edits-xs.ensures in
    let second = c.edits-seconds.ensures in
    let a = c.args.first.now in
    let b = c.args.second.now in
    rw (c.new-merge.ensures, first.same, second.same) (progress_start a.old_len b.old_len (new_len b) a.entries b.entries (are_edits a.old_len (new_len a) b.old_len c.edits-xs.result.now a.entries first.disjoint c.requires first.same)
    (are_edits b.old_len (new_len b) (new_len b) c.edits-seconds.result.now b.entries second.disjoint refl second.same))

pub take_next-requires : goal.take_next-requires
take_next-requires c = ready_for c.args.first.now.old_len c.args.second.now.old_len c.args.first.now.entries c.args.second.now.entries (state c.edits.merge) c.edits.xs.now c.edits.ys.now (c.in_ok-is_first.is_first, state c.prepare_next.new.self) c.edits.invariant c.in_ok-is_first.ensures

pub overflow_sub-result : goal.overflow_sub-result
overflow_sub-result c =
    let k = step c.args.first.now.old_len c.args.second.now.old_len c.args.first.now.entries c.args.second.now.entries (state c.edits.merge) (state c.prepare_next.new.self) c.edits.xs.now c.edits.ys.now c.in_ok-is_first.is_first (state c.take_next.new.self, c.in_ok-xs.field-0-0.now, c.in_ok-xs.field-0-1.now) (c.has_more.ensures.0 c.edits-test.true) c.edits.invariant c.in_ok-is_first.ensures c.in_ok-xs.ensures in
    let differ : take (common_len (state c.take_next.new.self)) c.take_next.new.self.first_pending.now ≡ take (common_len (state c.take_next.new.self)) c.take_next.new.self.second_pending.now → ⊥ = λ e. false≢true (sym c.if-not-cancel_common.true ∙ c.cancel_common.ensures.same.1 e) in
    let o = one_taken c.args.first.now.old_len c.args.second.now.old_len c.args.first.now.entries c.args.second.now.entries (state c.take_next.new.self) c.in_ok-xs.field-0-0.now c.in_ok-xs.field-0-1.now k.0 differ in
    let same = ap length c.edits-seconds.ensures.same in
    omega arith

pub overflow_sub-result-then-not-cancel_common : goal.overflow_sub-result-then-not-cancel_common
overflow_sub-result-then-not-cancel_common c =
    let k = step c.args.first.now.old_len c.args.second.now.old_len c.args.first.now.entries c.args.second.now.entries (state c.edits.merge) (state c.prepare_next.new.self) c.edits.xs.now c.edits.ys.now c.in_ok-is_first.is_first (state c.take_next.new.self, c.in_ok-xs.field-0-0.now, c.in_ok-xs.field-0-1.now) (c.has_more.ensures.0 c.edits-test.true) c.edits.invariant c.in_ok-is_first.ensures c.in_ok-xs.ensures in
    let differ : take (common_len (state c.take_next.new.self)) c.take_next.new.self.first_pending.now ≡ take (common_len (state c.take_next.new.self)) c.take_next.new.self.second_pending.now → ⊥ = λ e. false≢true (sym c.if-not-cancel_common.true ∙ c.cancel_common.ensures.same.1 e) in
    let o = one_taken c.args.first.now.old_len c.args.second.now.old_len c.args.first.now.entries c.args.second.now.entries (state c.take_next.new.self) c.in_ok-xs.field-0-0.now c.in_ok-xs.field-0-1.now k.0 differ in
    let same = ap length c.edits-seconds.ensures.same in
    omega arith

pub returns-then-not-cancel_common : goal.returns-then-not-cancel_common
returns-then-not-cancel_common c =
    let k = step c.args.first.now.old_len c.args.second.now.old_len c.args.first.now.entries c.args.second.now.entries (state c.edits.merge) (state c.prepare_next.new.self) c.edits.xs.now c.edits.ys.now c.in_ok-is_first.is_first (state c.take_next.new.self, c.in_ok-xs.field-0-0.now, c.in_ok-xs.field-0-1.now) (c.has_more.ensures.0 c.edits-test.true) c.edits.invariant c.in_ok-is_first.ensures c.in_ok-xs.ensures in
    let differ : take (common_len (state c.take_next.new.self)) c.take_next.new.self.first_pending.now ≡ take (common_len (state c.take_next.new.self)) c.take_next.new.self.second_pending.now → ⊥ = λ e. false≢true (sym c.if-not-cancel_common.true ∙ c.cancel_common.ensures.same.1 e) in
    let h = contradicts c.args.first.now.old_len c.args.second.now.old_len c.args.first.now.entries c.args.second.now.entries (state c.take_next.new.self) c.in_ok-xs.field-0-0.now c.in_ok-xs.field-0-1.now k.0 differ in
    at_edit c.args.first.now c.args.second.now c.edits-seconds.result.now c.in_ok-xs.field-0-1.now c.edits-seconds.ensures.same h

pub edits-smaller : goal.edits-smaller
edits-smaller c =
    let k = step c.args.first.now.old_len c.args.second.now.old_len c.args.first.now.entries c.args.second.now.entries (state c.edits.merge) (state c.prepare_next.new.self) c.edits.xs.now c.edits.ys.now c.in_ok-is_first.is_first (state c.take_next.new.self, c.in_ok-xs.field-0-0.now, c.in_ok-xs.field-0-1.now) (c.has_more.ensures.0 c.edits-test.true) c.edits.invariant c.in_ok-is_first.ensures c.in_ok-xs.ensures in
    let less = k.1 in
    omega arith

pub edits-preserved : goal.edits-preserved
edits-preserved c =
    let k = step c.args.first.now.old_len c.args.second.now.old_len c.args.first.now.entries c.args.second.now.entries (state c.edits.merge) (state c.prepare_next.new.self) c.edits.xs.now c.edits.ys.now c.in_ok-is_first.is_first (state c.take_next.new.self, c.in_ok-xs.field-0-0.now, c.in_ok-xs.field-0-1.now) (c.has_more.ensures.0 c.edits-test.true) c.edits.invariant c.in_ok-is_first.ensures c.in_ok-xs.ensures in
    continues_with c.args.first.now.old_len c.args.second.now.old_len c.args.first.now.entries c.args.second.now.entries (state c.take_next.new.self) (state c.cancel_common.new.self) c.in_ok-xs.field-0-0.now c.in_ok-xs.field-0-1.now k.0 (c.cancel_common.ensures.same.0 c.if-not-cancel_common.false) (c.cancel_common.ensures.cancelled c.if-not-cancel_common.false)

pub returns : goal.returns
returns c =
    let none : 0 < length c.edits.xs.now + length c.edits.ys.now → ⊥ = λ l. false≢true (sym c.edits-test.false ∙ c.has_more.ensures.1 l) in
    let x = nil_from_length c.edits.xs.now (omega arith) in
    let y = nil_from_length c.edits.ys.now (omega arith) in
    let p = rw (x, y) at c.edits.invariant in
    let first = c.edits-xs.ensures in
    let second = c.edits-seconds.ensures in
    let a = c.args.first.now in
    let b = c.args.second.now in
    ends_well a.old_len b.old_len (new_len b) a.entries b.entries c.into_edits.result.items (state c.edits.merge) (are_edits a.old_len (new_len a) b.old_len c.edits-xs.result.now a.entries first.disjoint c.requires first.same)
    (are_edits b.old_len (new_len b) (new_len b) c.edits-seconds.result.now b.entries second.disjoint refl second.same) p
    (c.into_edits.ensures ∙ ap (λ (s : State). s.out) c.in_ok-finish_edit.ensures) c.requires
