use Rattle.edit_record.specs.declared.swaps.moving_edits.MovingEdits.{MovingEdits}
use Rattle.edit_record.proofs.SwapsLemmas.RelativeEnds.MovedPastRecord.{made_moving}
use Rattle.edit_record.proofs.swaps.moving_edits.MovingEdits.new.Goals as goal

pub returns-clause-list : goal.returns-clause-list
returns-clause-list c =
    let m : MovingEdits = record { old_len = c.old_len-old_len.result; new_len = c.new_len-new_len.result; edits = c.into_edits-edits.result; ends = c.in_ok-ends.ends } in
    (made_moving m c.args.edits c.old_len-old_len.ensures c.new_len-new_len.ensures c.into_edits-edits.ensures.same c.into_edits-edits.ensures.disjoint c.in_ok-ends.ensures.ends c.in_ok-ends.ensures.len).0

pub returns-clause-well_formed : goal.returns-clause-well_formed
returns-clause-well_formed c =
    let m : MovingEdits = record { old_len = c.old_len-old_len.result; new_len = c.new_len-new_len.result; edits = c.into_edits-edits.result; ends = c.in_ok-ends.ends } in
    (made_moving m c.args.edits c.old_len-old_len.ensures c.new_len-new_len.ensures c.into_edits-edits.ensures.same c.into_edits-edits.ensures.disjoint c.in_ok-ends.ensures.ends c.in_ok-ends.ensures.len).1
