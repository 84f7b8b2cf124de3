use Rattle.std.proofs.Common.{arith}
use Rattle.hcl_scan.specs.Lexeme.{quote_unit}
use Rattle.hcl_scan.proofs.FlagLemmas.{ordinary_run}
use Rattle.hcl_scan.proofs.quoted.skip_ordinary.Goals as goal

pub returns-then-from-text-clause-run : goal.returns-then-from-text-clause-run
returns-then-from-text-clause-run c =
    let count = c.count_ordinary_of_16 in
    omega (arith, ordinary_run quote_unit c.args.text.now c.args.from count.result (omega (arith, count.ensures.within)) count.ensures.ordinary)
