use Rattle.std.proofs.Common.{◌≡◌, drop}
use Rattle.edit_record.specs.Lists.Sequence.{forward_all}
use Rattle.edit_record.proofs.lists.sequence.apply_all.Given as goal

abbrev pub invariant-loop-change : goal.invariant-loop-change
invariant-loop-change g l =
    let forward = g.C.Change.forward in
    forward_all forward (drop l.change-index l.changes) l.now.items ≡ forward_all forward l.changes l.text
