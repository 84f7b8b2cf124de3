use Rattle.std.proofs.Common.{◌+◌, ◌<◌, length, arith, sym, ◌∙◌, refl}
use Rattle.std.proofs.lemmas.Bool.{false≢true}
use Rattle.std.proofs.lemmas.List.{nil_from_length}
use Rattle.edit_record.specs.Lists.Pieces.{removed_len, added_len}
use Rattle.edit_record.specs.Lists.Validity.{new_len}
use Rattle.edit_record.specs.Swaps.Inner.SwapStateView.{state}
use Rattle.edit_record.proofs.SwapsLemmas.SwapSteps.{under_take_first, under_take_second, any_fault, some_edit, second_must, under_start, under_end, made_as}
use Rattle.edit_record.proofs.swaps.swap_lists.swap_edits.Goals as goal

pub edits-init : goal.edits-init
edits-init c =
    let a = c.args.first.now in let b = c.args.second.now in
    let p = made_as a c.edits-firsts.result.now b.old_len c.edits-firsts.ensures.same c.requires.lengths_match c.edits-firsts.ensures.disjoint in
    let q = made_as b c.edits-seconds.result.now (new_len b) c.edits-seconds.ensures.same refl c.edits-seconds.ensures.disjoint in
    rw (c.edits-firsts.ensures.same, c.edits-seconds.ensures.same) (under_start a.old_len b.old_len (added_len b.entries) (removed_len b.entries) a.entries b.entries (state c.in_ok-state.state) (new_len b) p q refl refl c.in_ok-state.ensures.starts)

pub edits-preserved-then-first_is_next : goal.edits-preserved-then-first_is_next
edits-preserved-then-first_is_next c =
    let a = c.args.first.now in let b = c.args.second.now in
    (under_take_first a.old_len b.old_len (added_len b.entries) (removed_len b.entries) a.entries b.entries (state c.edits.state) c.edits.xs.now c.edits.ys.now (state c.take_first.new.self, c.in_ok-xs.xs.now) c.edits.invariant (sym c.first_is_next.ensures ∙ c.if-first_is_next.true) c.in_ok-xs.ensures).0

pub edits-preserved : goal.edits-preserved
edits-preserved c =
    let a = c.args.first.now in let b = c.args.second.now in
    (under_take_second a.old_len b.old_len (added_len b.entries) (removed_len b.entries) a.entries b.entries (state c.edits.state) c.edits.xs.now c.edits.ys.now (state c.take_second.new.self, c.in_ok-ys.ys.now) c.edits.invariant
    (second_must a.old_len b.old_len (added_len b.entries) (removed_len b.entries) a.entries b.entries (state c.edits.state) c.edits.xs.now c.edits.ys.now c.edits.invariant c.requires.apart (c.has_more.ensures.0 c.edits-test.true) (sym c.first_is_next.ensures ∙ c.if-first_is_next.false)) c.in_ok-ys.ensures).0

pub returns-in_err-xs-clause-memory : goal.returns-in_err-xs-clause-memory
returns-in_err-xs-clause-memory c =
    let a = c.args.first.now in let b = c.args.second.now in
    any_fault c.from_residual-in_err-xs.result (some_edit a.old_len b.old_len (added_len b.entries) (removed_len b.entries) a.entries b.entries (state c.edits.state) c.edits.xs.now c.edits.ys.now c.edits.invariant (c.has_more.ensures.0 c.edits-test.true))

pub returns-in_err-ys-clause-memory : goal.returns-in_err-ys-clause-memory
returns-in_err-ys-clause-memory c =
    let a = c.args.first.now in let b = c.args.second.now in
    any_fault c.from_residual-in_err-ys.result (some_edit a.old_len b.old_len (added_len b.entries) (removed_len b.entries) a.entries b.entries (state c.edits.state) c.edits.xs.now c.edits.ys.now c.edits.invariant (c.has_more.ensures.0 c.edits-test.true))

pub returns-clause-done : goal.returns-clause-done
returns-clause-done c =
    let a = c.args.first.now in let b = c.args.second.now in
    let p = made_as a c.edits-firsts.result.now b.old_len c.edits-firsts.ensures.same c.requires.lengths_match c.edits-firsts.ensures.disjoint in
    let q = made_as b c.edits-seconds.result.now (new_len b) c.edits-seconds.ensures.same refl c.edits-seconds.ensures.disjoint in
    let none : 0 < length c.edits.xs.now + length c.edits.ys.now → ⊥ = λ l. false≢true (sym c.edits-test.false ∙ c.has_more.ensures.1 l) in
    let x = nil_from_length c.edits.xs.now (omega arith) in
    let y = nil_from_length c.edits.ys.now (omega arith) in
    let u = rw (x, y) at c.edits.invariant in
    under_end a.old_len b.old_len (added_len b.entries) (removed_len b.entries) a.entries b.entries (state c.edits.state) (new_len b) p q refl refl u (sym c.requires.lengths_match) refl
