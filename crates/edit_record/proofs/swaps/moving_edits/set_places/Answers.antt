use Rattle.std.proofs.Common.{length, get_or, arith, ap, ◌∙◌}
use Rattle.edit_record.specs.Lists.Pieces.{EditEntry}
use Rattle.edit_record.specs.Swaps.Inner.RelativeEnds.{ends_of}
use Rattle.edit_record.proofs.SwapsLemmas.RelativeEnds.SetPlaces.{put_one, put_as}
use Rattle.edit_record.proofs.SwapsLemmas.RelativeEnds.RelativeEndsLemmas.{ends_len}
use Rattle.edit_record.proofs.swaps.moving_edits.set_places.Goals as goal

pub overflow_sub-at : goal.overflow_sub-at
overflow_sub-at c =
    let l = ends_len c.args.ends.now in
    let p = put_one c.args.edits.now c.loop-i.edits (ends_of c.args.ends.now) c.loop-i.i c.index-edits-i.result c.end_of-end.result c.loop-i-test.true (l ∙ c.requires.len) c.loop-i.invariant c.index-edits-i.is c.end_of-end.ensures c.requires.fit in
    let h = p.holds in
    let r = ap length c.removed.ensures in
    let s = ap (λ (z : EditEntry). length z.removed) c.index-edits-i.is in
    omega (arith, h, r, s)

pub loop-i-preserved : goal.loop-i-preserved
loop-i-preserved c =
    let l = ends_len c.args.ends.now in
    let p = put_one c.args.edits.now c.loop-i.edits (ends_of c.args.ends.now) c.loop-i.i c.index-edits-i.result c.end_of-end.result c.loop-i-test.true (l ∙ c.requires.len) c.loop-i.invariant c.index-edits-i.is c.end_of-end.ensures c.requires.fit in
    p.next c.set_at.new.self (put_as c.index-edits-i.result (get_or c.loop-i.edits c.loop-i.i c.index-edits-i.result) c.set_at.new.self c.end_of-end.result _ c.index-edits-i.is (ap length c.removed.ensures) c.set_at.ensures)
