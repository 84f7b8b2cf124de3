use Rattle.edit_record.specs.Swaps.Inner.MovingEditsView.{edits_now}
use Rattle.edit_record.proofs.SwapsLemmas.RelativeEnds.FirstMeeting.{NoneMeets}
use Rattle.edit_record.proofs.swaps.moving_edits.MovingEdits.meets.Given as goal

abbrev pub invariant-loop-edit : goal.invariant-loop-edit
invariant-loop-edit l = NoneMeets (edits_now l.fn.self) l.fn.second l.edit-index
