-- What the check tries anyway: with an answer here, a mutant is refused without a second search.
use Rattle.std.proofs.Common.{rules, arith}
use Rattle.std.proofs.lemmas.Grind.{common_steps}
use Rattle.tf_rules.proofs.rules.interpolation.is_object_key.Goals as goal

pub returns-in-ObjectKey : goal.returns-in-ObjectKey
returns-in-ObjectKey c = first_of (search rules, grind (arith, common_steps))
