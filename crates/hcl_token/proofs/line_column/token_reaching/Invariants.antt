use Rattle.std.proofs.Common.{◌≤◌, drop, length}
use Rattle.std.specs.List.{All}
use Rattle.hcl_token.specs.declared.span.Span.{Span}
use Rattle.hcl_token.proofs.line_column.token_reaching.Given as goal

abbrev pub invariant-loop-i : goal.invariant-loop-i
invariant-loop-i l = (l.i ≤ length l.tokens) × All (λ (token : Span). l.begin ≤ token.stop) (drop l.i l.tokens)

abbrev pub decreases-loop-i : goal.decreases-loop-i
decreases-loop-i l = l.i
