use Rattle.std.proofs.Common.{◌≡◌}
use Rattle.hcl_rescan.proofs.MovedLemmas.{moved_until}
use Rattle.hcl_rescan.proofs.moved.move_spans.Given as goal

abbrev pub invariant-loop-k : goal.invariant-loop-k
invariant-loop-k l = l.spans ≡ moved_until l.from l.to l.k l.fn.spans
