use Rattle.std.proofs.Common.{sym, ap, ◌∙◌}
use Rattle.hcl_layout.specs.Gaps.Inner.CodeViews.{is_without_tab}
use Rattle.hcl_layout.proofs.GapsLemmas.TextBytes.{gaps_are_spaces}
use Rattle.hcl_layout.proofs.gaps.text_bytes.has_no_tab.Goals as goal

pub returns-clause-spaces : goal.returns-clause-spaces
returns-clause-spaces c =
    gaps_are_spaces c.args.scanned.now.text c.args.scanned.now.pairs c.args.scanned.now.last c.is_without_tab.result c.text.ensures.tokenization
    (λ h. sym (c.is_without_tab.ensures ∙ ap is_without_tab c.text.ensures.text) ∙ h)
