use Rattle.std.proofs.Common.{List, length, ap, arith}
use Rattle.hcl_token.specs.Tokens.{Pair}
use Rattle.hcl_token.proofs.OrderLemmas.{length-pairs}
use Rattle.hcl_token.proofs.lines.Lines.of.Goals as goal

pub gap_line-line-requires-clause-within : goal.gap_line-line-requires-clause-within
gap_line-line-requires-clause-within c =
    let size = ap (λ (ps : List Pair). length ps) c.self.view_is in
    omega (arith, c.requires, size, length-pairs c.self.inside.text.now c.self.inside.tokens.now 0)

pub gap_line-line-requires-else-i-self-clause-within : goal.gap_line-line-requires-else-i-self-clause-within
gap_line-line-requires-else-i-self-clause-within c =
    let size = ap (λ (ps : List Pair). length ps) c.self.view_is in
    omega (arith, c.requires, size, length-pairs c.self.inside.text.now c.self.inside.tokens.now 0)

pub token_line-requires-clause-within : goal.token_line-requires-clause-within
token_line-requires-clause-within c =
    let size = ap (λ (ps : List Pair). length ps) c.self.view_is in
    omega (arith, c.requires, size, length-pairs c.self.inside.text.now c.self.inside.tokens.now 0)
