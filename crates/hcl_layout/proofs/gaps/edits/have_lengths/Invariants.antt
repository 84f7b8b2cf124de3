use Rattle.std.proofs.Common.{◌≡◌, ◌&&◌, slice_range}
use Rattle.hcl_layout.specs.Gaps.Inner.Stages.{have_lengths}
use Rattle.hcl_layout.proofs.gaps.edits.have_lengths.Given as goal

abbrev pub invariant-loop-i : goal.invariant-loop-i
invariant-loop-i l = (l.same && have_lengths (slice_range l.gaps l.i l.to) (slice_range l.scanned.pairs l.i l.to)) ≡ have_lengths (slice_range l.gaps l.from l.to) (slice_range l.scanned.pairs l.from l.to)
