use Rattle.std.proofs.Common.{drop, sym, ◌∙◌, arith}
use Rattle.hcl_scan.proofs.RunLemmas.{run_length-none, run_length-on}
use Rattle.hcl_scan.proofs.runs.run_end.Goals as goal

pub returns-then-len-eq0-clause-value : goal.returns-then-len-eq0-clause-value
returns-then-len-eq0-clause-value g c =
    omega (arith, run_length-none (g.U.Unit.len c.args.unit.now) c.units.is_line_start (drop c.skip_ordinary-on.result c.args.text.now) (sym c.len_at-len.ensures.value ∙ c.if-len-eq0.true))

pub units-preserved : goal.units-preserved
units-preserved g c =
    let on = run_length-on (g.U.Unit.len c.args.unit.now) c.units.is_line_start c.args.text.now c.skip_ordinary-on.result c.len_at-len.result (sym c.len_at-len.ensures.value) (omega arith) c.len_at-len.ensures.within in
    (omega (arith, on), c.len_at-len.ensures.within)
