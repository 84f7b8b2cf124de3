use Rattle.std.proofs.Common.{sym, ap, ◌∙◌}
use Rattle.hcl_layout.specs.Gaps.Inner.CodeViews.{is_plain}
use Rattle.hcl_layout.proofs.GapsLemmas.TextBytes.{plain_no_tab, plain_ascii, gaps_are_spaces, bytes_are_clusters}
use Rattle.hcl_layout.proofs.gaps.text_bytes.are_bytes_plain.Goals as goal

pub returns-clause-spaces : goal.returns-clause-spaces
returns-clause-spaces c =
    gaps_are_spaces c.args.scanned.now.text c.args.scanned.now.pairs c.args.scanned.now.last c.is_plain.result c.text.ensures.tokenization
    (λ h. plain_no_tab c.args.scanned.now.text (sym (c.is_plain.ensures ∙ ap is_plain c.text.ensures.text) ∙ h))

pub returns-clause-clusters : goal.returns-clause-clusters
returns-clause-clusters c =
    bytes_are_clusters c.args.scanned.now.text c.args.scanned.now.pairs c.args.scanned.now.last c.is_plain.result c.text.ensures.tokenization
    (λ h. plain_ascii c.args.scanned.now.text (sym (c.is_plain.ensures ∙ ap is_plain c.text.ensures.text) ∙ h))
