-- No template sequence is open at the end of the line.
use Rattle.std.proofs.Common.{◌≡◌, None, ◌∙◌, ap, take}
use Rattle.hcl_explain.specs.Lines.{line_end}
use Rattle.hcl_explain.proofs.SequenceLemmas.{none_is, in_first}
use Rattle.hcl_explain.proofs.scan_error.open_string.Goals as goal

pub returns-in-None : goal.returns-in-None
returns-in-None c =
    let text = c.args.text.now in
    let before = c.prefix.ensures ∙ ap (λ n. take n text) c.line_end.ensures in
    let is : c.in_ok-opened.field-0 ≡ None = cc in
    in_first _ _ c.string_after.result
    (none_is text c.prefix.result.now (line_end text c.args.at) _ before is
    c.in_ok-opened.ensures.none) c.string_after.ensures
