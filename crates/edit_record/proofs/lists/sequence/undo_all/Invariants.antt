use Rattle.std.proofs.Common.{◌≡◌, length}
use Rattle.edit_record.specs.Lists.Sequence.{backward_all}
use Rattle.edit_record.proofs.lists.sequence.undo_all.Given as goal

abbrev pub invariant-loop-remaining : goal.invariant-loop-remaining
invariant-loop-remaining g l =
    let backward = g.C.Change.backward in
    backward_all backward l.remaining l.now.items ≡ backward_all backward l.changes l.text

abbrev pub decreases-loop-remaining : goal.decreases-loop-remaining
decreases-loop-remaining g l = length l.remaining
