use Rattle.std.proofs.Common.{◌≡◌}
use Rattle.tf_rules.specs.Trivia.{token_range, has_trivia}
use Rattle.tf_rules.proofs.trivia.has_trivia.Given as goal

abbrev pub invariant-loop-i : goal.invariant-loop-i
invariant-loop-i l = has_trivia (token_range l.fn.scanned.pairs l.i l.fn.past) ≡ has_trivia (token_range l.fn.scanned.pairs l.fn.first l.fn.past)
