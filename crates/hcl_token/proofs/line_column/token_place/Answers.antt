use Rattle.std.proofs.Common.{length, sym, ap, ap₂, subst, ◌∙◌, arith, slice_range, IsUtf8}
use Rattle.hcl_token.specs.declared.place.Place.{Place}
use Rattle.hcl_token.specs.declared.span.Span.{Span}
use Rattle.hcl_token.specs.Pairs.{pair_at, pairs_of, gap_at}
use Rattle.hcl_token.specs.Inner.LineColumn.{IsPlaceBounded, place_after_piece}
use Rattle.hcl_token.proofs.OrderLemmas.{token_at, length-range}
use Rattle.hcl_token.proofs.PlaceLemmas.{place_found}
use Rattle.hcl_token.proofs.LineColumnLemmas.{start_bounded}
use Rattle.hcl_token.proofs.line_column.token_place.Goals as goal

pub slice-requires-clause-ordered : goal.slice-requires-clause-ordered
slice-requires-clause-ordered c =
    let known = token_at c.args.text.now c.args.tokens.now c.requires.at.0 c.args.i c.index-tokens-i.result _ c.requires.at.1.ordered c.requires.within c.index-tokens-i.is in
    omega (arith, known.gap, known.spelling, c.gap_at-begins.ensures, c.start.ensures)

pub slice-requires-clause-within : goal.slice-requires-clause-within
slice-requires-clause-within c =
    let known = token_at c.args.text.now c.args.tokens.now c.requires.at.0 c.args.i c.index-tokens-i.result _ c.requires.at.1.ordered c.requires.within c.index-tokens-i.is in
    omega (arith, known.spelling, known.within, c.start.ensures)

pub place_after_piece-requires-clause-utf8 : goal.place_after_piece-requires-clause-utf8
place_after_piece-requires-clause-utf8 c =
    let known = token_at c.args.text.now c.args.tokens.now c.requires.at.0 c.args.i c.index-tokens-i.result _ c.requires.at.1.ordered c.requires.within c.index-tokens-i.is in
    subst IsUtf8 (sym (c.slice.ensures ∙ ap₂ (slice_range c.args.text.now) c.gap_at-begins.ensures c.start.ensures)) known.gap_utf8

pub place_after_piece-requires-clause-line : goal.place_after_piece-requires-clause-line
place_after_piece-requires-clause-line c =
    let reached : IsPlaceBounded c.args.at (gap_at c.args.tokens.now c.args.i) = subst (λ (p : Place). IsPlaceBounded p (gap_at c.args.tokens.now c.args.i)) (sym c.requires.at.1.is) (start_bounded c.args.text.now c.args.tokens.now c.requires.at.0 c.args.i c.requires.at.1.ordered) in
    let known = token_at c.args.text.now c.args.tokens.now c.requires.at.0 c.args.i c.index-tokens-i.result _ c.requires.at.1.ordered c.requires.within c.index-tokens-i.is in
    let width = length-range c.args.text.now c.gap_at-begins.result c.start.result (omega (arith, known.gap, c.gap_at-begins.ensures, c.start.ensures)) (omega (arith, known.spelling, known.within, c.start.ensures)) in
    omega (arith, ap length c.slice.ensures, width, known.gap, known.spelling, known.within, c.gap_at-begins.ensures, c.start.ensures, c.requires.at.1.ordered.short, reached.line)

pub place_after_piece-requires-clause-column : goal.place_after_piece-requires-clause-column
place_after_piece-requires-clause-column c =
    let reached : IsPlaceBounded c.args.at (gap_at c.args.tokens.now c.args.i) = subst (λ (p : Place). IsPlaceBounded p (gap_at c.args.tokens.now c.args.i)) (sym c.requires.at.1.is) (start_bounded c.args.text.now c.args.tokens.now c.requires.at.0 c.args.i c.requires.at.1.ordered) in
    let known = token_at c.args.text.now c.args.tokens.now c.requires.at.0 c.args.i c.index-tokens-i.result _ c.requires.at.1.ordered c.requires.within c.index-tokens-i.is in
    let width = length-range c.args.text.now c.gap_at-begins.result c.start.result (omega (arith, known.gap, c.gap_at-begins.ensures, c.start.ensures)) (omega (arith, known.spelling, known.within, c.start.ensures)) in
    omega (arith, ap length c.slice.ensures, width, known.gap, known.spelling, known.within, c.gap_at-begins.ensures, c.start.ensures, c.requires.at.1.ordered.short, reached.column)

pub returns : goal.returns
returns c =
    let text = c.args.text.now in
    let tokens = c.args.tokens.now in
    let token : Span = c.index-tokens-i.result in
    let known = token_at text tokens c.requires.at.0 c.args.i token token c.requires.at.1.ordered c.requires.within c.index-tokens-i.is in
    c.place_after_piece.ensures.value
    ∙ ap (place_after_piece c.args.at) c.slice.ensures
    ∙ ap₂ (λ m n. place_after_piece c.args.at (slice_range text m n)) c.gap_at-begins.ensures c.start.ensures
    ∙ ap (λ (p : Place). place_after_piece p (slice_range text (gap_at tokens c.args.i) token.start)) c.requires.at.1.is
    ∙ place_found (pairs_of text tokens) c.args.i (pair_at text (gap_at tokens c.args.i) token) known.pair
