-- None of the entries up to here may share anything.
use Rattle.std.proofs.Common.{take}
use Rattle.tf_program.specs.Inner.Entries.{ArePlacedApart}
use Rattle.tf_program.proofs.entry.none_may_share.Given as goal

abbrev pub invariant-loop-entry : goal.invariant-loop-entry
invariant-loop-entry g l =
    ArePlacedApart g.S.Store.spot (g.S.Store.known l.store) (take l.entry-index l.entries) l.other
