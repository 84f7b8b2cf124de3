use Rattle.std.proofs.Common.{arith, refl, sym, ◌∙◌}
use Rattle.std.proofs.lemmas.Bool.{false≢true}
use Rattle.edit_record.specs.Swaps.Swap.{ExceedsLimit, IsWithinLimit}
use Rattle.edit_record.proofs.SwapsLemmas.SwapSteps.{follow}
use Rattle.edit_record.proofs.swaps.swap_lists.check_swap.Goals as goal

pub exceeds_limit-requires : goal.exceeds_limit-requires
exceeds_limit-requires c =
    let fits = c.edits-firsts.ensures.disjoint.old_fits in
    let len = c.old_len-2.ensures in
    omega (arith, fits, len)

pub returns-then-exceeds_limit-clause-refused : goal.returns-then-exceeds_limit-clause-refused
returns-then-exceeds_limit-clause-refused c =
    let a = c.args.first.now in let b = c.args.second.now in
    let over = c.exceeds_limit.ensures.0 c.if-exceeds_limit.true in
    let len = c.old_len-2.ensures in
    (follow a b c.new_len.result c.old_len.result c.new_len.ensures c.old_len.ensures c.if-new_len-old_len.false, c.in_default.ensures.apart refl, omega (arith, over, len))

pub returns-clause-swappable : goal.returns-clause-swappable
returns-clause-swappable c =
    let a = c.args.first.now in let b = c.args.second.now in
    let len = c.old_len-2.ensures in
    let none : ExceedsLimit a b → ⊥ = λ l. false≢true (sym c.if-exceeds_limit.false ∙ c.exceeds_limit.ensures.1 (omega (arith, l, len))) in
    let within : IsWithinLimit a b = omega arith in
    (follow a b c.new_len.result c.old_len.result c.new_len.ensures c.old_len.ensures c.if-new_len-old_len.false, c.in_default.ensures.apart refl, within)
