-- The part is UTF-8, or it is not.
use Rattle.std.proofs.Common.{arith, rules}
use Rattle.hcl_token.proofs.ClusterLemmas.{clusters-le}
use Rattle.tf_program.proofs.Locating.{columns_of_utf8, columns_of_bytes}
use Rattle.tf_program.proofs.location.columns.Goals as goal

pub returns-in-Ok-clause-count : goal.returns-in-Ok-clause-count
returns-in-Ok-clause-count c = columns_of_utf8 c.args.part.now c.clusters.result (search rules) c.clusters.ensures

pub returns-in-Ok-clause-within : goal.returns-in-Ok-clause-within
returns-in-Ok-clause-within c = omega (arith, clusters-le c.args.part.now (search rules), c.clusters.ensures)

pub returns-in-Err-clause-count : goal.returns-in-Err-clause-count
returns-in-Err-clause-count c = columns_of_bytes c.args.part.now (search rules)
