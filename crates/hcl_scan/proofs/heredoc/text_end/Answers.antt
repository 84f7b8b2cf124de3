use Rattle.std.proofs.Common.{◌≡◌, ◌+◌, ◌-◌, ◌<◌, ◌==◌, false, drop, length, slice_index, sym, ap, ◌∙◌, arith}
use Rattle.std.proofs.lemmas.List.{drop_all}
use Rattle.hcl_scan.specs.Closing.{heredoc_unit}
use Rattle.hcl_scan.specs.Inner.RunLength.{run_length}
use Rattle.hcl_scan.proofs.HeredocPlaces.{run_length-closing, run_length-open, line_feed_unit}
use Rattle.hcl_scan.proofs.RunLemmas.{run_length-none, run_length-on}
use Rattle.hcl_scan.proofs.heredoc.text_end.Goals as goal

pub returns-then-closes_at-clause-value : goal.returns-then-closes_at-clause-value
returns-then-closes_at-clause-value c =
    let none = run_length-closing c.args.marker.now c.lines.is_line_start (drop c.lines.at c.args.text.now) (sym c.closes_at.ensures ∙ c.if-closes_at.true) in
    omega (arith, c.lines.invariant.0, none)

pub returns-then-on-text-clause-value : goal.returns-then-on-text-clause-value
returns-then-on-text-clause-value c =
    let plain = run_length-open c.args.marker.now c.lines.is_line_start (drop c.lines.at c.args.text.now) (sym c.closes_at.ensures ∙ c.if-closes_at.false) in
    let run = c.ordinary_end-on.ensures.run in
    let end = rw (c.if-on-text.true) at run in
    let run' = rw (drop_all (length c.args.text.now) c.args.text.now (omega arith)) at end in
    omega (arith, c.lines.invariant.0, plain, run')

pub returns-then-len-eq0-clause-value : goal.returns-then-len-eq0-clause-value
returns-then-len-eq0-clause-value c =
    let text = c.args.text.now in
    let on = c.ordinary_end-on.result in
    let plain = run_length-open c.args.marker.now c.lines.is_line_start (drop c.lines.at text) (sym c.closes_at.ensures ∙ c.if-closes_at.false) in
    let none = run_length-none (heredoc_unit c.args.marker.now) false (drop on text) (sym c.len_at-len.ensures.value ∙ c.if-len-eq0.true) in
    omega (arith, c.lines.invariant.0, plain, c.ordinary_end-on.ensures.run, none)

pub lines-preserved : goal.lines-preserved
lines-preserved c =
    let text = c.args.text.now in
    let on = c.ordinary_end-on.result in
    let plain = run_length-open c.args.marker.now c.lines.is_line_start (drop c.lines.at text) (sym c.closes_at.ensures ∙ c.if-closes_at.false) in
    let more = run_length-on (heredoc_unit c.args.marker.now) false text on c.len_at-len.result (sym c.len_at-len.ensures.value) (omega arith) c.len_at-len.ensures.within in
    (omega (arith, c.lines.invariant.0, plain, c.ordinary_end-on.ensures.run, more), c.len_at-len.ensures.within)

-- the line ends here
pub lines-preserved-then-text-on-eq10 : goal.lines-preserved-then-text-on-eq10
lines-preserved-then-text-on-eq10 c =
    let text = c.args.text.now in
    let name = c.args.marker.now in
    let on = c.ordinary_end-on.result in
    let plain = run_length-open name c.lines.is_line_start (drop c.lines.at text) (sym c.closes_at.ensures ∙ c.if-closes_at.false) in
    let some : on < length text = omega (arith, c.ordinary_end-on.ensures.within) in
    let one = line_feed_unit name text on some c.if-text-on-eq10.true in
    let more = run_length-on (heredoc_unit name) false text on 1 one (omega arith) (omega arith) in
    let last : on + 1 - 1 ≡ on = omega arith in
    let flag = ap (λ k. slice_index text k == 10) last ∙ ap (λ b. b == 10) c.if-text-on-eq10.true in
    let rest = ap (λ f. run_length (heredoc_unit name) f (drop (on + 1) text)) flag in
    (omega (arith, c.lines.invariant.0, plain, c.ordinary_end-on.ensures.run, more, rest), omega arith)
