use Rattle.std.proofs.Common.{◌≡◌, take}
use Rattle.hcl_token.specs.Inner.LineColumn.{has_mark}
use Rattle.hcl_token.proofs.line_column.has_mark.Given as goal

abbrev pub invariant-loop-token : goal.invariant-loop-token
invariant-loop-token l = l.marked ≡ has_mark (take l.token-index l.tokens)
