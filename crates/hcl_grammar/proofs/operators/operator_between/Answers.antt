-- What the check tries anyway: with an answer here, a mutant is refused without a second search.
use Rattle.std.proofs.Common.{rules, arith}
use Rattle.std.proofs.lemmas.Grind.{common_steps}
use Rattle.hcl_grammar.proofs.operators.operator_between.Goals as goal

pub returns-in-NotEqual : goal.returns-in-NotEqual
returns-in-NotEqual c = first_of (search rules, grind (arith, common_steps))
