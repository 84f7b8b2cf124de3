use Rattle.std.proofs.Common.{◌≡◌, ◌+◌, ◌*◌, ◌≤◌, length, drop, []}
use Rattle.hcl_token.specs.Tokens.{whole_text}
use Rattle.hcl_layout.specs.Gaps.Inner.Stages.{with_gaps}
use Rattle.hcl_layout.proofs.gaps.limit.len_within_limit.Given as goal

abbrev pub invariant-loop-i : goal.invariant-loop-i
invariant-loop-i l = record {
  rest : l.total + length (whole_text (drop l.i (with_gaps l.gaps l.scanned.pairs)) []) ≡ length (whole_text (with_gaps l.gaps l.scanned.pairs) []);
  small : l.total ≤ 8589934592 * l.i;
}
