-- The error is located in the text that was kept, or not at all.
use Rattle.std.proofs.Common.{refl, rules}
use Rattle.tf_program.proofs.Refusing.{is_located, is_not_located}
use Rattle.tf_program.proofs.file_error.FileError.of_refused.Goals as goal

pub returns-then-locate-clause-location : goal.returns-then-locate-clause-location
returns-then-locate-clause-location c =
    is_located c.args.text.now c.args.text.now c.args.locate c.args.fault c.located.result c.if-locate.true refl c.located.ensures.fault c.located.ensures.location

pub returns-else-locate-clause-location : goal.returns-else-locate-clause-location
returns-else-locate-clause-location c =
    is_not_located c.args.text.now c.args.locate c.from.result c.if-locate.false (search rules)
