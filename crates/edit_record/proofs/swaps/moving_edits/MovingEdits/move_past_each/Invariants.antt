use Rattle.std.proofs.Common.{drop}
use Rattle.edit_record.specs.Swaps.Inner.MovingEditsView.{edits_now}
use Rattle.edit_record.proofs.SwapsLemmas.RelativeEnds.MovePastEach.{PassingEach}
use Rattle.edit_record.proofs.swaps.moving_edits.MovingEdits.move_past_each.Given as goal

abbrev pub invariant-loop-edit : goal.invariant-loop-edit
invariant-loop-edit l = PassingEach (edits_now l.fn.self) l.second l.fn.self l.self l.seconds.items (drop l.edit-index l.second.entries) l.added l.removed
