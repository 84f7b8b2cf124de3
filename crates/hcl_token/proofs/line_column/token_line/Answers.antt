use Rattle.std.proofs.Common.{ap, ◌∙◌, arith, slice_range, count_by, length}
use Rattle.std.proofs.Common.{ap₂}
use Rattle.hcl_token.specs.declared.span.Span.{Span}
use Rattle.hcl_token.specs.Place.{is_lf}
use Rattle.hcl_token.proofs.CountLemmas.{line_found, line_reached}
use Rattle.hcl_token.proofs.OrderLemmas.{token_at, length-range}
use Rattle.hcl_token.proofs.line_column.token_line.Goals as goal

pub slice-requires-clause-ordered : goal.slice-requires-clause-ordered
slice-requires-clause-ordered c =
    let known = token_at c.args.text.now c.args.tokens.now c.requires.at.0 c.args.i c.index-tokens-i.result _ c.requires.at.1.ordered c.requires.within c.index-tokens-i.is in
    omega (arith, known.gap, known.spelling, c.gap_at-begins.ensures, c.start.ensures)

pub slice-requires-clause-within : goal.slice-requires-clause-within
slice-requires-clause-within c =
    let known = token_at c.args.text.now c.args.tokens.now c.requires.at.0 c.args.i c.index-tokens-i.result _ c.requires.at.1.ordered c.requires.within c.index-tokens-i.is in
    omega (arith, known.spelling, known.within, c.start.ensures)

pub overflow_add-result : goal.overflow_add-result
overflow_add-result c =
    let known = token_at c.args.text.now c.args.tokens.now c.requires.at.0 c.args.i c.index-tokens-i.result _ c.requires.at.1.ordered c.requires.within c.index-tokens-i.is in
    let width = length-range c.args.text.now c.gap_at-begins.result c.start.result (omega (arith, known.gap, c.gap_at-begins.ensures, c.start.ensures)) (omega (arith, known.spelling, known.within, c.start.ensures)) in
    omega (
      arith,
      ap length c.slice.ensures,
      width,
      known.gap,
      known.spelling,
      known.within,
      c.gap_at-begins.ensures,
      c.start.ensures,
      c.count_line_feeds.ensures.within,
      c.requires.at.1.ordered.short,
      line_reached c.args.text.now c.args.tokens.now c.requires.at.0 c.args.i c.args.line c.requires.at.1,
    )

pub returns : goal.returns
returns c =
    let text = c.args.text.now in
    let tokens = c.args.tokens.now in
    let token : Span = c.index-tokens-i.result in
    let known = token_at text tokens c.requires.at.0 c.args.i token token c.requires.at.1.ordered c.requires.within c.index-tokens-i.is in
    let bytes = c.slice.ensures ∙ ap₂ (slice_range text) c.gap_at-begins.ensures c.start.ensures in
    omega (
      arith,
      c.count_line_feeds.ensures.value,
      ap (count_by is_lf) bytes,
      line_found text tokens c.requires.at.0 c.args.i c.args.line token c.requires.at.1 known.pair,
    )
