use Rattle.std.proofs.Common.{◌≡◌, ◌-◌, drop, length}
use Rattle.std.specs.Str.{bytes_eq}
use Rattle.hcl_layout.specs.Gaps.Space.{spaces}
use Rattle.hcl_layout.proofs.gaps.edits.is_spaces.Given as goal

abbrev pub invariant-loop-b : goal.invariant-loop-b
invariant-loop-b l = bytes_eq (drop l.b-index l.gap) (spaces (length l.gap - l.b-index)) ≡ bytes_eq l.gap (spaces (length l.gap))
