use Rattle.std.proofs.Common.{arith}
use Rattle.hcl_scan.proofs.IdentLemmas.{run_continues}
use Rattle.hcl_scan.proofs.ident.count_id_bytes_of_16.Goals as goal

pub returns-clause-value : goal.returns-clause-value
returns-clause-value c =
    (run_continues c.args.text.now c.args.at c.count_id_bytes.result c.requires.utf8 (omega (arith, c.count_id_bytes.ensures.within)) (rw c.as_bytes.ensures.value at c.count_id_bytes.ensures.id)).0

pub returns-clause-rest : goal.returns-clause-rest
returns-clause-rest c =
    (run_continues c.args.text.now c.args.at c.count_id_bytes.result c.requires.utf8 (omega (arith, c.count_id_bytes.ensures.within)) (rw c.as_bytes.ensures.value at c.count_id_bytes.ensures.id)).1

pub returns-clause-stops : goal.returns-clause-stops
returns-clause-stops c = rw c.as_bytes.ensures.value at c.count_id_bytes.ensures.stops
