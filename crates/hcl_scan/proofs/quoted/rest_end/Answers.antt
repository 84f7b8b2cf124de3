use Rattle.std.proofs.Common.{◌+◌, ◌-◌, ◌==◌, false, slice_index, drop, sym, ◌∙◌, arith}
use Rattle.hcl_scan.specs.Lexeme.{quote_unit}
use Rattle.hcl_scan.proofs.RunLemmas.{run_length-none, run_length-on}
use Rattle.hcl_scan.proofs.UnitLemmas.{quote_run_any}
use Rattle.hcl_scan.proofs.quoted.rest_end.Goals as goal

pub returns-then-len-eq0-clause-value : goal.returns-then-len-eq0-clause-value
returns-then-len-eq0-clause-value c =
    omega (arith, c.loop-at.invariant.0, run_length-none quote_unit false (drop c.loop-at.at c.args.text.now) (sym c.len_at-len.ensures.value ∙ c.if-len-eq0.true))

pub loop-at-preserved : goal.loop-at-preserved
loop-at-preserved c =
    let text = c.args.text.now in
    let at = c.loop-at.at in
    let len = c.len_at-len.result in
    let on = run_length-on quote_unit false text at len (sym c.len_at-len.ensures.value) (omega arith) c.len_at-len.ensures.within in
    let same = quote_run_any (slice_index text (at + len - 1) == 10) (drop (at + len) text) in
    (omega (arith, c.loop-at.invariant.0, on, same, c.skip_ordinary_after-at.ensures.run), c.skip_ordinary_after-at.ensures.within.1)
