use Rattle.std.proofs.Common.{◌≡◌, ◌-◌, ◌≤◌, ◌++◌, length, drop, slice_range, []}
use Rattle.hcl_token.specs.Tokens.{whole_text}
use Rattle.hcl_layout.specs.Gaps.Inner.Stages.{with_gaps}
use Rattle.hcl_layout.proofs.GapsLemmas.Copied.{reached}
use Rattle.hcl_layout.proofs.gaps.text.text_with_gaps.Given as goal

abbrev pub invariant-loop-i : goal.invariant-loop-i
invariant-loop-i l = record {
  within : l.i ≤ length l.scanned.pairs;
  written : l.text.items ++ (slice_range l.source l.from (reached l.scanned.pairs l.i) ++ whole_text (drop l.i (with_gaps l.gaps l.scanned.pairs)) []) ≡ whole_text (with_gaps l.gaps l.scanned.pairs) [];
  following : l.from ≤ reached l.scanned.pairs l.i;
}

abbrev pub decreases-loop-i : goal.decreases-loop-i
decreases-loop-i l = length l.scanned.pairs - l.i
