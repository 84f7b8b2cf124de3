use Rattle.std.proofs.Common.{◌≡◌, ◌+◌, ◌≤◌, ◌-◌, count_by, drop, length}
use Rattle.hcl_token.specs.Place.{is_lf}
use Rattle.hcl_token.proofs.line_column.count_line_feeds.Given as goal

abbrev pub invariant-loop-from : goal.invariant-loop-from
invariant-loop-from l =
    (l.from ≤ length l.piece) × (l.count + count_by is_lf (drop l.from l.piece) ≡ count_by is_lf l.piece)

abbrev pub decreases-loop-from : goal.decreases-loop-from
decreases-loop-from l = length l.piece - l.from
