use Rattle.std.proofs.Common.{ap, ap₂, ◌∙◌, arith, slice_range, count_by, length}
use Rattle.hcl_token.specs.Place.{is_lf}
use Rattle.hcl_token.specs.Pairs.{gap_at}
use Rattle.hcl_token.proofs.CountLemmas.{line_over, line_reached}
use Rattle.hcl_token.proofs.OrderLemmas.{gap-le, length-range, order-le, order-slice}
use Rattle.hcl_token.proofs.line_column.gap_line.Goals as goal

pub slice-requires-clause-ordered : goal.slice-requires-clause-ordered
slice-requires-clause-ordered c =
    let tokens = c.args.tokens.now in
    let order = order-slice tokens 0 c.requires.at.0 c.args.from c.args.to c.requires.at.1.ordered.order c.requires.order in
    omega (arith, order-le (slice_range tokens c.args.from c.args.to) _ _ order, c.gap_at.ensures, c.gap_at-2.ensures)

pub slice-requires-clause-within : goal.slice-requires-clause-within
slice-requires-clause-within c =
    omega (arith, gap-le c.args.tokens.now 0 c.requires.at.0 c.args.to c.requires.at.1.ordered.order, c.requires.at.1.ordered.within, c.gap_at-2.ensures)

pub overflow_add-result : goal.overflow_add-result
overflow_add-result c =
    let text = c.args.text.now in
    let tokens = c.args.tokens.now in
    let ordered = c.requires.at.1.ordered in
    let order = order-le (slice_range tokens c.args.from c.args.to) _ _ (order-slice tokens 0 c.requires.at.0 c.args.from c.args.to ordered.order c.requires.order) in
    let within = gap-le tokens 0 c.requires.at.0 c.args.to ordered.order in
    let width = length-range text (gap_at tokens c.args.from) (gap_at tokens c.args.to) order (omega (arith, within, ordered.within)) in
    let bytes = c.slice.ensures ∙ ap₂ (slice_range text) c.gap_at.ensures c.gap_at-2.ensures in
    omega (
      arith,
      ap length bytes,
      width,
      order,
      within,
      ordered.within,
      ordered.short,
      c.count_line_feeds.ensures.within,
      line_reached text tokens c.requires.at.0 c.args.from c.args.line c.requires.at.1,
    )

pub returns : goal.returns
returns c =
    let text = c.args.text.now in
    let tokens = c.args.tokens.now in
    let bytes = c.slice.ensures ∙ ap₂ (slice_range text) c.gap_at.ensures c.gap_at-2.ensures in
    omega (
      arith,
      c.count_line_feeds.ensures.value,
      ap (count_by is_lf) bytes,
      line_over text tokens c.requires.at.0 c.args.from c.args.to c.args.line c.requires.at.1 c.requires.order,
    )
