use Rattle.hcl_token.proofs.TokenRangeLemmas.{IsAlong}
use Rattle.hcl_token.proofs.line_column.place_after_each.Given as goal

abbrev pub invariant-loop-token : goal.invariant-loop-token
invariant-loop-token l = IsAlong l.text l.tokens l.from l.fn.at l.token-index l.gap_at l.place
