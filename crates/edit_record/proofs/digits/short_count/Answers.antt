use Rattle.std.proofs.Common.{sym}
use Rattle.itoa.proofs.Decimal.{length_one, length_two}
use Rattle.edit_record.proofs.digits.short_count.Goals as goal

pub returns-then-number-lt10-clause-is : goal.returns-then-number-lt10-clause-is
returns-then-number-lt10-clause-is c = sym (length_one c.args.number c.if-number-lt10.true)

pub returns-else-number-lt10-clause-is : goal.returns-else-number-lt10-clause-is
returns-else-number-lt10-clause-is c = sym (length_two c.args.number c.if-number-lt10.false c.requires)
