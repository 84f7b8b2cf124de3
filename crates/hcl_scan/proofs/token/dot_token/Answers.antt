use Rattle.std.proofs.Common.{◌-◌, sym, ◌∙◌, arith}
use Rattle.hcl_scan.proofs.TokenLemmas.{index_token}
use Rattle.hcl_scan.proofs.token.dot_token.Goals as goal

pub returns-then-is_ascii_digit-clause-value : goal.returns-then-is_ascii_digit-clause-value
returns-then-is_ascii_digit-clause-value c =
    let digit = rw c.byte_at-second.ensures.value at (sym c.is_ascii_digit.ensures.value ∙ c.if-is_ascii_digit.true) in
    index_token c.args.text.now c.args.at (c.digits_end.result - c.args.at) digit (omega arith)
