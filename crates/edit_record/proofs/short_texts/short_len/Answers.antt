use Rattle.std.proofs.Common.{◌≡◌, length, take, drop, arith}
use Rattle.std.proofs.lemmas.List.{length-drop, length-take-le}
use Rattle.edit_record.proofs.Pushes.{edit_len}
use Rattle.edit_record.proofs.short_texts.short_len.Goals as goal

pub returns-clause-is : goal.returns-clause-is
returns-clause-is c =
    let texts = c.args.texts.now in
    let split_is : length (take c.args.removed texts) ≡ c.args.removed = length-take-le c.args.removed texts (omega arith) in
    let new : length (take c.args.added (drop c.args.removed texts)) ≡ c.args.added = length-take-le c.args.added (drop c.args.removed texts) (omega (arith, length-drop c.args.removed texts)) in
    edit_len c.args.at c.args.removed c.args.added c.digit_count.result c.short_count.result c.short_count-2.result (take c.args.removed texts) (take c.args.added (drop c.args.removed texts)) split_is new c.digit_count.ensures.is c.short_count.ensures.is c.short_count-2.ensures.is
