-- No other place has the last `<` for a value of the lines before that of the byte.
use Rattle.std.proofs.Common.{◌≡◌, ◌∙◌, Some, None, ap, take}
use Rattle.hcl_explain.proofs.HeredocLemmas.{opening_none, nothing_opens}
use Rattle.hcl_explain.proofs.heredoc.opening_before.Goals as goal

pub returns-in-Some-clause-none : goal.returns-in-Some-clause-none
returns-in-Some-clause-none c =
    let text = c.args.text.now in
    let before = c.prefix.ensures ∙ ap (λ n. take n text) c.line_start.ensures in
    let is : c.in_ok-less.less ≡ Some c.in-Some.opened = cc in
    opening_none text c.prefix.result.now c.args.at c.in-Some.opened c.in_ok-less.less
    c.opening_at.result before is c.in_ok-less.ensures.only c.opening_at.ensures.none

pub returns-in-None-clause-none : goal.returns-in-None-clause-none
returns-in-None-clause-none c =
    let text = c.args.text.now in
    let before = c.prefix.ensures ∙ ap (λ n. take n text) c.line_start.ensures in
    let is : c.in_ok-less.less ≡ None = cc in
    nothing_opens text c.prefix.result.now c.args.at c.in_ok-less.less before is
    c.in_ok-less.ensures.none
