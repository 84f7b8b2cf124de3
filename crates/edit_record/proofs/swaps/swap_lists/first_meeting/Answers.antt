use Rattle.std.proofs.Common.{◌≡◌, ◌+◌, ◌<◌, ◌-◌, [], length, arith, ap, sym, ◌∙◌, refl}
use Rattle.std.proofs.lemmas.Bool.{false≢true}
use Rattle.std.proofs.lemmas.List.{nil_from_length}
use Rattle.edit_record.specs.Lists.Pieces.{removed_len, added_len}
use Rattle.edit_record.specs.Lists.Validity.{new_len}
use Rattle.edit_record.specs.Swaps.Inner.SwapState.{with_edits}
use Rattle.edit_record.specs.Swaps.Inner.SwapStateView.{state}
use Rattle.edit_record.proofs.SwapsLemmas.SwapSteps.{invariant_place, first_is_next_done, second_is_next_done, pass_one, pass_other, under_start, under_meets, nothing_meets, made_as, meet_at}
use Rattle.edit_record.proofs.swaps.swap_lists.first_meeting.Goals as goal

pub edits-init : goal.edits-init
edits-init c =
    let a = c.args.first.now in let b = c.args.second.now in
    let p = made_as a c.edits-firsts.result.now b.old_len c.edits-firsts.ensures.same c.requires c.edits-firsts.ensures.disjoint in
    let q = made_as b c.edits-seconds.result.now (new_len b) c.edits-seconds.ensures.same refl c.edits-seconds.ensures.disjoint in
    rw (c.edits-firsts.ensures.same, c.edits-seconds.ensures.same) ([], [], under_start a.old_len b.old_len (added_len b.entries) (removed_len b.entries) a.entries b.entries (with_edits [] [] (state c.new-state.result)) (new_len b) p q refl refl (ap (with_edits [] []) c.new-state.ensures))

pub first_is_next-requires : goal.first_is_next-requires
first_is_next-requires c =
    let a = c.args.first.now in let b = c.args.second.now in
    invariant_place a.old_len b.old_len (added_len b.entries) (removed_len b.entries) a.entries b.entries (state c.edits.state) c.edits.xs.now c.edits.ys.now c.edits.invariant

pub second_is_next-requires : goal.second_is_next-requires
second_is_next-requires c =
    let a = c.args.first.now in let b = c.args.second.now in
    invariant_place a.old_len b.old_len (added_len b.entries) (removed_len b.entries) a.entries b.entries (state c.edits.state) c.edits.xs.now c.edits.ys.now c.edits.invariant

pub skip_first-xs-requires : goal.skip_first-xs-requires
skip_first-xs-requires c =
    let a = c.args.first.now in let b = c.args.second.now in
    invariant_place a.old_len b.old_len (added_len b.entries) (removed_len b.entries) a.entries b.entries (state c.edits.state) c.edits.xs.now c.edits.ys.now c.edits.invariant

pub skip_second-ys-requires : goal.skip_second-ys-requires
skip_second-ys-requires c =
    let a = c.args.first.now in let b = c.args.second.now in
    invariant_place a.old_len b.old_len (added_len b.entries) (removed_len b.entries) a.entries b.entries (state c.edits.state) c.edits.xs.now c.edits.ys.now c.edits.invariant

pub edits-preserved-then-first_is_next : goal.edits-preserved-then-first_is_next
edits-preserved-then-first_is_next c =
    let a = c.args.first.now in let b = c.args.second.now in
    (pass_one a.old_len b.old_len (added_len b.entries) (removed_len b.entries) a.entries b.entries (state c.edits.state) c.edits.xs.now c.edits.ys.now (state c.skip_first-xs.new.self, c.skip_first-xs.result.now) c.edits.invariant (sym c.first_is_next.ensures ∙ c.if-first_is_next.true) c.skip_first-xs.ensures).0

pub edits-preserved : goal.edits-preserved
edits-preserved c =
    let a = c.args.first.now in let b = c.args.second.now in
    (pass_other a.old_len b.old_len (added_len b.entries) (removed_len b.entries) a.entries b.entries (state c.edits.state) c.edits.xs.now c.edits.ys.now (state c.skip_second-ys.new.self, c.skip_second-ys.result.now) c.edits.invariant (sym c.second_is_next.ensures ∙ c.if-second_is_next.true) c.skip_second-ys.ensures).0

pub returns-else-second_is_next-clause-meet : goal.returns-else-second_is_next-clause-meet
returns-else-second_is_next-clause-meet c =
    let a = c.args.first.now in let b = c.args.second.now in
    let some : 0 < length c.edits.xs.now + length c.edits.ys.now = c.has_more.ensures.0 c.edits-test.true in
    let i : length a.entries ≡ length c.edits-firsts.result.now = ap length (sym c.edits-firsts.ensures.same) in
    let j : length b.entries ≡ length c.edits-seconds.result.now = ap length (sym c.edits-seconds.ensures.same) in
    let us = c.edits.invariant.0 in
    let vs = c.edits.invariant.1 in
    meet_at a b (length a.entries - length c.edits.xs.now) (length b.entries - length c.edits.ys.now) _ _ (omega (arith, i)) (omega (arith, j))
    (under_meets a.old_len b.old_len (added_len b.entries) (removed_len b.entries) a.entries b.entries (with_edits us vs (state c.edits.state)) c.edits.xs.now c.edits.ys.now c.edits.invariant.2 some
    (first_is_next_done us vs (state c.edits.state) c.edits.xs.now c.edits.ys.now ∙ sym c.first_is_next.ensures ∙ c.if-first_is_next.false) (second_is_next_done us vs (state c.edits.state) c.edits.xs.now c.edits.ys.now ∙ sym c.second_is_next.ensures ∙ c.if-second_is_next.false))

pub returns-clause-apart : goal.returns-clause-apart
returns-clause-apart c =
    let a = c.args.first.now in let b = c.args.second.now in
    let none : 0 < length c.edits.xs.now + length c.edits.ys.now → ⊥ = λ l. false≢true (sym c.edits-test.false ∙ c.has_more.ensures.1 l) in
    let x = nil_from_length c.edits.xs.now (omega arith) in
    let y = nil_from_length c.edits.ys.now (omega arith) in
    let u = rw (x, y) at c.edits.invariant in
    λ e. nothing_meets a.old_len b.old_len (added_len b.entries) (removed_len b.entries) a.entries b.entries (with_edits u.0 u.1 (state c.edits.state)) u.2
