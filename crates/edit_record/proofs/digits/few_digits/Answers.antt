use Rattle.std.proofs.Common.{◌≡◌, ℕ, ◌+◌, ◌/◌, ◌<◌, ◌≤◌, length, ap, sym, arith, ◌∙◌}
use Rattle.std.specs.Prelude.{decimal}
use Rattle.itoa.proofs.Decimal.{length_one, length_two, length_pair}
use Rattle.edit_record.proofs.digits.few_digits.Goals as goal

three : (n : ℕ) → 100 ≤ n → n < 1000 → length (decimal n) ≡ 3
three n low high = length_pair n low (omega arith) ∙ ap (λ k. k + 2) (length_one (n / 100) (omega arith))

four : (n : ℕ) → 1000 ≤ n → n < 10000 → length (decimal n) ≡ 4
four n low high =
    length_pair n (omega arith) (omega arith) ∙ ap (λ k. k + 2) (length_two (n / 100) (omega arith) (omega arith))

pub returns-then-number-lt10-clause-is : goal.returns-then-number-lt10-clause-is
returns-then-number-lt10-clause-is c = sym (length_one c.args.number c.if-number-lt10.true)

pub returns-then-number-lt100-clause-is : goal.returns-then-number-lt100-clause-is
returns-then-number-lt100-clause-is c =
    sym (length_two c.args.number c.if-number-lt10.false c.if-number-lt100.true)

pub returns-then-number-lt1000-clause-is : goal.returns-then-number-lt1000-clause-is
returns-then-number-lt1000-clause-is c = sym (three c.args.number c.if-number-lt100.false c.if-number-lt1000.true)

pub returns-else-number-lt1000-clause-is : goal.returns-else-number-lt1000-clause-is
returns-else-number-lt1000-clause-is c = sym (four c.args.number c.if-number-lt1000.false c.requires)
