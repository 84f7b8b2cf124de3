use Rattle.std.proofs.Common.{◌+◌, ap, sym, arith, ◌∙◌}
use Rattle.itoa.proofs.Decimal.{length_four}
use Rattle.edit_record.proofs.digits.digit_count.Goals as goal

pub returns-then-number-lt-NINE_DIGITS-clause-is : goal.returns-then-number-lt-NINE_DIGITS-clause-is
returns-then-number-lt-NINE_DIGITS-clause-is c =
    ap (λ k. k + 4) c.few_digits-then-number-lt-NINE_DIGITS.ensures.is ∙ sym (length_four c.args.number c.if-number-lt10000.false (omega arith))
