use Rattle.std.proofs.Common.{◌-◌, length}
use Rattle.hcl_rescan.specs.Inner.WholeLines.{IsLineStart, IsRescannedTo}
use Rattle.hcl_rescan.proofs.incremental.rescan_tokens.Given as goal

abbrev pub invariant-loop-first : goal.invariant-loop-first
invariant-loop-first l = record {
  line_start : IsLineStart l.old l.line_start.index l.line_start.at;
  begun : IsRescannedTo l.text l.rescanned.tokens.items l.rescanned.at;
}

abbrev pub decreases-loop-first : goal.decreases-loop-first
decreases-loop-first l = length l.replaced - l.first
