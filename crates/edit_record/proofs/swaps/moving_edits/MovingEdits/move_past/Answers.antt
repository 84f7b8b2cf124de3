use Rattle.std.proofs.Common.{◌+◌, ◌-◌, arith, refl, ap, ◌∙◌, subst}
use Rattle.std.proofs.lemmas.Result.{err_from_is_err_and}
use Rattle.edit_record.specs.Lists.Pieces.{EditList}
use Rattle.edit_record.specs.Lists.Journal.{JournalEntry}
use Rattle.edit_record.specs.Swaps.Swap.{SwapTo}
use Rattle.edit_record.specs.Swaps.MoveToEndResult.{CanSwap, SomeMeet, SwapIsTooLong}
use Rattle.edit_record.specs.Swaps.Inner.MovingEditsView.{edits_now}
use Rattle.edit_record.specs.declared.swaps.moving_edits.MovingEdits.{MovingEdits}
use Rattle.edit_record.proofs.SwapsLemmas.RelativeEnds.MovedPastRecord.{moving_follows, short_enough, made_before, has_moved}
use Rattle.edit_record.proofs.swaps.moving_edits.MovingEdits.move_past.Goals as goal

pub returns-then-meets : goal.returns-then-meets
returns-then-meets c =
    let m = c.args.self.now in
    let follows = moving_follows m c.edits-second.result.now c.old_len.result c.requires c.old_len.ensures c.if-self-old_len.false in
    let met = c.meets.ensures.met c.if-meets.true in
    (refl, subst (λ (z : EditList). SomeMeet (edits_now m) z) c.edits-second.ensures (follows, met.0, met.1, met.2))

pub exceeds_limit-requires : goal.exceeds_limit-requires
exceeds_limit-requires c = c.requires.made.old_fits

pub returns-then-exceeds_limit : goal.returns-then-exceeds_limit
returns-then-exceeds_limit c =
    let m = c.args.self.now in
    let b = c.edits-second.result.now in
    let follows = moving_follows m b c.old_len.result c.requires c.old_len.ensures c.if-self-old_len.false in
    subst (λ (z : EditList). SwapIsTooLong (edits_now m) z) c.edits-second.ensures (follows, c.meets.ensures.apart c.if-meets.false, c.exceeds_limit.ensures.0 c.if-exceeds_limit.true)

pub overflow_add-len : goal.overflow_add-len
overflow_add-len c =
    let m = c.args.self.now in
    let b = c.edits-second.result.now in
    let within = short_enough m b c.exceeds_limit.result c.exceeds_limit.ensures c.if-exceeds_limit.false in
    let old = c.in_ok-seconds.ensures.old_len in
    let x = c.new_len.ensures in
    let y = c.old_len.ensures in
    let same = c.if-self-old_len.false in
    let fits = c.requires.made.new_fits in
    omega (arith, within, old, x, y, same, fits)

pub move_past_each-requires-clause-apart : goal.move_past_each-requires-clause-apart
move_past_each-requires-clause-apart c = c.meets.ensures.apart c.if-meets.false

pub returns-in_err-seconds : goal.returns-in_err-seconds
returns-in_err-seconds c =
    let m = c.args.self.now in
    let b = c.edits-second.result.now in
    let follows = moving_follows m b c.old_len.result c.requires c.old_len.ensures c.if-self-old_len.false in
    let within = short_enough m b c.exceeds_limit.result c.exceeds_limit.ensures c.if-exceeds_limit.false in
    let p = err_from_is_err_and c.from_residual.result c.from_residual.ensures.1 in
    rw (p.1, p.2) (subst (λ (z : EditList). CanSwap (edits_now m) z) c.edits-second.ensures (follows, c.meets.ensures.apart c.if-meets.false, within))

pub from_valid-before-requires : goal.from_valid-before-requires
from_valid-before-requires c =
    let m = c.args.self.now in
    let b = c.edits-second.result.now in
    let n = c.move_past_each.new.self in
    let follows = moving_follows m b c.old_len.result c.requires c.old_len.ensures c.if-self-old_len.false in
    let w = c.in_ok-seconds.ensures in
    let within = short_enough m b c.exceeds_limit.result c.exceeds_limit.ensures c.if-exceeds_limit.false in
    let x = c.new_len.ensures in
    let y = c.old_len-2.ensures in
    let old = w.old_len in
    made_before m n b c.in_ok-seconds.seconds.items c.requires follows w c.new_len.result c.old_len-2.result c.new_len.ensures c.old_len-2.ensures (omega (arith, within, old, x, y))

pub returns : goal.returns
returns c =
    let m = c.args.self.now in
    let b = c.edits-second.result.now in
    let n = c.move_past_each.new.self in
    let follows = moving_follows m b c.old_len.result c.requires c.old_len.ensures c.if-self-old_len.false in
    let w = c.in_ok-seconds.ensures in
    let within = short_enough m b c.exceeds_limit.result c.exceeds_limit.ensures c.if-exceeds_limit.false in
    let x = c.new_len.ensures in
    let y = c.old_len-2.ensures in
    let old = w.old_len in
    let k : MovingEdits = record { old_len = (n.old_len + c.new_len.result) - c.old_len-2.result; new_len = c.new_len-self.result; edits = n.edits; ends = n.ends } in
    let before_is = ap (λ (r : JournalEntry). r.edits) c.make.ensures ∙ c.from_valid-before.ensures in
    let word_is = ap (λ (r : JournalEntry). r.word) c.make.ensures ∙ c.word.ensures in
    let h = has_moved m n b c.in_ok-seconds.seconds.items c.requires follows w c.new_len.result c.old_len-2.result c.new_len.ensures c.old_len-2.ensures (omega (arith, within, old, x, y)) k c.new_len-self.result c.make.result.edits refl refl c.new_len-self.ensures refl refl before_is in
    (subst (λ (z : EditList). SwapTo (edits_now m) z c.make.result.edits (edits_now k)) c.edits-second.ensures h.0, word_is, h.1)
