use Rattle.std.proofs.Common.{sym, ◌∙◌, arith}
use Rattle.std.specs.Char.{is_ascii_digit}
use Rattle.hcl_scan.proofs.FlagLemmas.{passing_after}
use Rattle.hcl_scan.proofs.TokenLemmas.{whole_number}
use Rattle.hcl_scan.proofs.number.short_number_len.Goals as goal

pub returns-then-ends_number-clause-value : goal.returns-then-ends_number-clause-value
returns-then-ends_number-clause-value c =
    let text = c.args.text.now in
    let at = c.args.at in
    let n = c.count_digits-len.result in
    let run = passing_after is_ascii_digit text at n (omega (arith, c.count_digits-len.ensures.within)) c.count_digits-len.ensures.digits in
    let ends = rw c.byte_at.ensures.value at (sym c.ends_number.ensures ∙ c.if-ends_number.true) in
    whole_number text at n run ends
