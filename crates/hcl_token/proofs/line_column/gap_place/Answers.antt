use Rattle.std.proofs.Common.{◌≡◌, ◌+◌, ◌-◌, List, sym, ap, subst, ◌∙◌, arith, slice_range, take}
use Rattle.hcl_token.specs.declared.place.Place.{Place}
use Rattle.hcl_token.specs.declared.span.Span.{Span}
use Rattle.hcl_token.specs.Pairs.{pairs_from, pairs_of, gap_at}
use Rattle.hcl_token.specs.Inner.LineColumn.{IsPlaceBounded, place_after_pairs, first_place}
use Rattle.hcl_token.proofs.TokenRangeLemmas.{place_after_pairs-slice}
use Rattle.hcl_token.proofs.LineColumnLemmas.{start_bounded, pairs_in_range}
use Rattle.hcl_token.proofs.line_column.gap_place.Goals as goal

pub place_after_tokens-requires : goal.place_after_tokens-requires
place_after_tokens-requires c =
    let text = c.args.text.now in
    let tokens = c.args.tokens.now in
    let at = c.requires.at.1 in
    let reached : IsPlaceBounded c.args.at (gap_at tokens c.args.from) = subst (λ (p : Place). IsPlaceBounded p (gap_at tokens c.args.from)) (sym at.is) (start_bounded text tokens c.requires.at.0 c.args.from at.ordered) in
    rw (c.token_range-token_range.ensures, c.gap_at.ensures, c.gap_at-2.ensures) (pairs_in_range text tokens c.requires.at.0 c.args.from c.args.to c.args.at at.ordered c.requires.order reached)

pub returns : goal.returns
returns c =
    let text = c.args.text.now in
    let tokens = c.args.tokens.now in
    let end : c.args.from + (c.args.to - c.args.from) ≡ c.args.to = omega (arith, c.requires.order) in
    c.place_after_tokens.ensures.value
    ∙ ap (λ n. place_after_pairs c.args.at (pairs_from text n c.token_range-token_range.result.now)) c.gap_at.ensures
    ∙ ap (λ (l : List Span). place_after_pairs c.args.at (pairs_from text (gap_at tokens c.args.from) l)) c.token_range-token_range.ensures
    ∙ ap (λ (p : Place). place_after_pairs p (pairs_from text (gap_at tokens c.args.from) (slice_range tokens c.args.from c.args.to))) c.requires.at.1.is
    ∙ place_after_pairs-slice text tokens 0 first_place c.args.from (c.args.to - c.args.from)
    ∙ ap (λ n. place_after_pairs first_place (take n (pairs_of text tokens))) end
