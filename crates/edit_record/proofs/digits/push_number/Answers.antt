use Rattle.std.proofs.Common.{◌≡◌, ◌++◌, ◌/◌, ◌%◌, refl, arith}
use Rattle.std.specs.Prelude.{decimal}
use Rattle.itoa.proofs.Decimal.{decimal_four}
use Rattle.edit_record.specs.Inner.Digits.{two_digits}
use Rattle.edit_record.proofs.Pushes.{joined}
use Rattle.edit_record.proofs.digits.push_number.Goals as goal

pub returns-else-number-lt10000-clause-text : goal.returns-else-number-lt10000-clause-text
returns-else-number-lt10000-clause-text c =
    let n = c.args.number in
    let t1 = c.push_few-else-number-lt10000.new.out.items in
    let t2 = c.push_pair.new.out.items in
    let t3 = c.push_pair-else-number-lt10000.new.out.items in
    let a = two_digits (n % 10000 / 100) in
    let b = two_digits (n % 10000 % 100) in
    let end : t3 ≡ t1 ++ (a ++ b) = joined t1 t2 t3 a b (a ++ b) c.push_pair.ensures.text c.push_pair-else-number-lt10000.ensures.text refl in
    joined c.args.out.now.items t1 t3 (decimal (n / 10000)) (a ++ b) (decimal n) c.push_few-else-number-lt10000.ensures.text end (decimal_four n c.if-number-lt10000.false (omega arith))
