-- There is no record of this number.
use Rattle.std.proofs.Common.{rules, arith}
use Rattle.std.proofs.lemmas.Grind.{common_steps}
use Rattle.tf_session.specs.RemovingRecord.RefusesTake.{no_record}
use Rattle.tf_session.proofs.taking.without_record.Goals as goal

pub returns-then-number-eq0-clause-refused : goal.returns-then-number-eq0-clause-refused
returns-then-number-eq0-clause-refused c = no_record (first_of (search rules, grind (arith, common_steps)))
