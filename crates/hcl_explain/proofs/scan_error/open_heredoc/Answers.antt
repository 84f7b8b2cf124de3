-- No template sequence is open before the line that should close the heredoc.
use Rattle.std.proofs.Common.{◌≡◌, None, inl, ◌∙◌, ap, take}
use Rattle.hcl_explain.specs.Lines.{closing_place}
use Rattle.hcl_explain.proofs.SequenceLemmas.{none_is}
use Rattle.hcl_explain.proofs.scan_error.open_heredoc.Goals as goal

pub returns-in-None : goal.returns-in-None
returns-in-None c =
    let text = c.args.text.now in
    let before = c.prefix.ensures ∙ ap (λ n. take n text) c.closing_place.ensures in
    let is : c.in_ok-opened.field-0 ≡ None = cc in
    inl (
      none_is text c.prefix.result.now (closing_place text c.args.at) _ before is
          c.in_ok-opened.ensures.none,
      c.explanation-in-None.ensures,
    )
