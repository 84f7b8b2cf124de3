use Rattle.std.proofs.Common.{sym, ◌∙◌}
use Rattle.hcl_layout.proofs.GapsLemmas.CellCode.{commented, uncommented}
use Rattle.hcl_layout.proofs.gaps.cells.is_multiline_comment_at.Goals as goal

pub returns-then-is_inline_comment : goal.returns-then-is_inline_comment
returns-then-is_inline_comment c =
    commented c.args.scanned.now.pairs c.args.i c.kind.result c.spelling.result.now c.has_lf.result c.requires c.kind.ensures c.spelling.ensures.value (sym c.is_inline_comment.ensures ∙ c.if-is_inline_comment.true) c.has_lf.ensures

pub returns : goal.returns
returns c = uncommented c.args.scanned.now.pairs c.args.i c.kind.result c.requires c.kind.ensures (sym c.is_inline_comment.ensures ∙ c.if-is_inline_comment.false)
