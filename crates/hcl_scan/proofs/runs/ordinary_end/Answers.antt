use Rattle.std.proofs.Common.{◌+◌, ◌≤◌, length, arith}
use Rattle.hcl_scan.proofs.FlagLemmas.{ordinary_run}
use Rattle.hcl_scan.proofs.runs.ordinary_end.Goals as goal

pub returns-then-count-lt16-clause-run : goal.returns-then-count-lt16-clause-run
returns-then-count-lt16-clause-run g c =
    omega (arith, c.loop-at.invariant.0, ordinary_run (g.U.Unit.len c.args.unit.now) c.args.text.now c.loop-at.at c.count_ordinary_of_16-count.result (omega (arith, c.count_ordinary_of_16-count.ensures.within)) c.count_ordinary_of_16-count.ensures.ordinary)

pub loop-at-preserved : goal.loop-at-preserved
loop-at-preserved g c =
    let count = c.count_ordinary_of_16-count in
    let within : c.loop-at.at + count.result ≤ length c.args.text.now = omega (arith, count.ensures.within) in
    let run = ordinary_run (g.U.Unit.len c.args.unit.now) c.args.text.now c.loop-at.at count.result within count.ensures.ordinary in
    (omega (arith, c.loop-at.invariant.0, run), within, omega (arith, c.loop-at.invariant.2))
