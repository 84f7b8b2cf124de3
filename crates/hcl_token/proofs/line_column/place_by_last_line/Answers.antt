use Rattle.std.proofs.Common.{ℕ, ◌+◌, ◌-◌, List, drop, length, sym, ap, subst, ◌∙◌, arith}
use Rattle.std.proofs.lemmas.List.{length-drop, take_all}
use Rattle.hcl_token.specs.declared.place.Place.{Place}
use Rattle.hcl_token.specs.declared.span.Span.{Span}
use Rattle.hcl_token.specs.Pairs.{pairs_from}
use Rattle.hcl_token.specs.Inner.LineColumn.{IsTokenRange, place_after_pairs}
use Rattle.hcl_token.proofs.LastLineLemmas.{along_last_line, begin_after, gap_inside}
use Rattle.hcl_token.proofs.line_column.place_by_last_line.Goals as goal

pub token_reaching-first-requires : goal.token_reaching-first-requires
token_reaching-first-requires c =
    let after = begin_after _ _ _ _ _ _ c.requires.1 in
    omega (arith, after, c.if-begin-from.false)

pub slice-requires-clause-ordered : goal.slice-requires-clause-ordered
slice-requires-clause-ordered c =
    let inside = gap_inside _ _ _ _ _ c.token_reaching-first.result _ c.requires.1 in
    omega (arith, inside.0, c.gap_from-gap_at.ensures)

pub place_after_each-requires-2 : goal.place_after_each-requires-2
place_after_each-requires-2 c =
    let tokens = c.args.tokens.now in
    let first = c.token_reaching-first.result in
    let gap = c.gap_from-gap_at.result in
    let start : Place = record { line = c.args.at.line + c.count_line_feeds.result; column = 1 } in
    let along = along_last_line _ _ _ _ _ first gap c.count_line_feeds.result c.args.at _ c.requires.1 c.gap_from-gap_at.ensures c.token_reaching-first.ensures.before c.slice.ensures c.count_line_feeds.ensures.value in
    let all = take_all (length tokens - first) (drop first tokens) (omega (arith, length-drop first tokens)) in
    subst (λ (l : List Span). (to : ℕ) × IsTokenRange c.args.text.now l gap to start) (sym all) along.rest

pub returns : goal.returns
returns c =
    let tokens = c.args.tokens.now in
    let first = c.token_reaching-first.result in
    let gap = c.gap_from-gap_at.result in
    let start : Place = record { line = c.args.at.line + c.count_line_feeds.result; column = 1 } in
    let along = along_last_line _ _ _ _ _ first gap c.count_line_feeds.result c.args.at _ c.requires.1 c.gap_from-gap_at.ensures c.token_reaching-first.ensures.before c.slice.ensures c.count_line_feeds.ensures.value in
    let all = take_all (length tokens - first) (drop first tokens) (omega (arith, length-drop first tokens)) in
    c.place_after_each-2.ensures ∙ ap (λ (l : List Span). place_after_pairs start (pairs_from c.args.text.now gap l)) all ∙ along.value
