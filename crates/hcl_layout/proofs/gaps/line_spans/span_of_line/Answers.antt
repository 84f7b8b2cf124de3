use Rattle.std.proofs.Common.{sym, ◌∙◌}
use Rattle.std.proofs.lemmas.Bool.{and_parts}
use Rattle.hcl_layout.specs.Gaps.Inner.LineSpans.{is_comment_alone}
use Rattle.std.specs.Prelude.{slice_range}
use Rattle.hcl_layout.proofs.GapsLemmas.LineSpans.{line_span, comment_span}
use Rattle.hcl_layout.proofs.gaps.line_spans.span_of_line.Goals as goal

pub returns-then-is_comment_line-clause-span : goal.returns-then-is_comment_line-clause-span
returns-then-is_comment_line-clause-span c = λ frozen is.
    let ps = c.args.scanned.now.pairs in
    let line = c.args.line in
    let parts = and_parts line.has_comment (is_comment_alone (slice_range ps c.args.at line.past)) (sym c.is_comment_line.ensures ∙ c.if-is_comment_line.true) in
    comment_span ps c.args.at frozen line is parts.1

pub returns-clause-span : goal.returns-clause-span
returns-clause-span c = λ frozen is. line_span c.args.scanned.now.pairs c.args.at frozen c.args.line is
