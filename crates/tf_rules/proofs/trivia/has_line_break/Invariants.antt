use Rattle.std.proofs.Common.{◌≡◌, ◌≤◌}
use Rattle.tf_rules.specs.Trivia.{token_range, has_line_break}
use Rattle.tf_rules.proofs.trivia.has_line_break.Given as goal

abbrev pub invariant-loop-i : goal.invariant-loop-i
invariant-loop-i l =
    (l.depth ≤ l.i) × (has_line_break l.fn.count_comments l.depth (token_range l.fn.scanned.pairs l.i l.fn.past) ≡ has_line_break l.fn.count_comments 0 (token_range l.fn.scanned.pairs l.fn.first l.fn.past))
