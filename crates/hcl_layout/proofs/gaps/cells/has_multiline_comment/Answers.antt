use Rattle.std.proofs.Common.{sym, ◌∙◌}
use Rattle.hcl_layout.proofs.GapsLemmas.CellCode.{breaks_next, breaks_found, breaks_none, breaks_is}
use Rattle.hcl_layout.proofs.gaps.cells.has_multiline_comment.Goals as goal

pub returns-then-is_multiline_comment_at : goal.returns-then-is_multiline_comment_at
returns-then-is_multiline_comment_at c =
    sym (breaks_found c.args.scanned.now.pairs c.loop-i.i c.args.past c.is_multiline_comment_at.result c.loop-i-test.true c.requires.within c.is_multiline_comment_at.ensures c.if-is_multiline_comment_at.true)
    ∙ (c.loop-i.invariant ∙ breaks_is c.args.scanned.now.pairs c.args.at c.args.past)

pub loop-i-preserved : goal.loop-i-preserved
loop-i-preserved c =
    sym (breaks_next c.args.scanned.now.pairs c.loop-i.i c.args.past c.is_multiline_comment_at.result c.loop-i-test.true c.requires.within c.is_multiline_comment_at.ensures c.if-is_multiline_comment_at.false)
    ∙ c.loop-i.invariant

pub returns : goal.returns
returns c =
    sym (breaks_none c.args.scanned.now.pairs c.loop-i.i c.args.past c.loop-i-test.false)
    ∙ (c.loop-i.invariant ∙ breaks_is c.args.scanned.now.pairs c.args.at c.args.past)
