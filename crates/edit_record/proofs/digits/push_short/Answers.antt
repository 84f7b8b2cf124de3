use Rattle.std.proofs.Common.{ℕ, List, ◌++◌, ap, sym, ◌∙◌}
use Rattle.std.proofs.lemmas.Fmt.{decimal_digit}
use Rattle.itoa.proofs.Decimal.{decimal_two}
use Rattle.edit_record.proofs.digits.push_short.Goals as goal

pub returns-then-number-lt10-clause-text : goal.returns-then-number-lt10-clause-text
returns-then-number-lt10-clause-text c =
    c.push_digit.ensures.text ∙ ap (λ (x : List ℕ). c.args.out.now.items ++ x) (sym (decimal_digit c.args.number c.if-number-lt10.true))

pub returns-else-number-lt10-clause-text : goal.returns-else-number-lt10-clause-text
returns-else-number-lt10-clause-text c =
    c.push_pair.ensures.text
    ∙ ap (λ (x : List ℕ). c.args.out.now.items ++ x) (sym (decimal_two c.args.number c.if-number-lt10.false c.requires.small))
