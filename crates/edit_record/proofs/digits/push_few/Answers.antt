use Rattle.std.proofs.Common.{◌/◌, ◌%◌, arith}
use Rattle.std.specs.Prelude.{decimal}
use Rattle.itoa.proofs.Decimal.{decimal_pair}
use Rattle.edit_record.specs.Inner.Digits.{two_digits}
use Rattle.edit_record.proofs.Pushes.{joined}
use Rattle.edit_record.proofs.digits.push_few.Goals as goal

pub returns-else-number-lt100-clause-text : goal.returns-else-number-lt100-clause-text
returns-else-number-lt100-clause-text c =
    let n = c.args.number in
    joined c.args.out.now.items c.push_short-else-number-lt100.new.out.items c.push_pair.new.out.items (decimal (n / 100)) (two_digits (n % 100)) (decimal n) c.push_short-else-number-lt100.ensures.text c.push_pair.ensures.text (decimal_pair n c.if-number-lt100.false (omega arith))
