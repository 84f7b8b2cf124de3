use Rattle.std.proofs.Common.{◌≡◌, ◌+◌, false, true, length, ap, ◌∙◌, sym, arith}
use Rattle.std.specs.List.{list_any}
use Rattle.hcl_token.specs.Place.{clusters, is_lf}
use Rattle.hcl_token.proofs.ClusterLemmas.{clusters-ascii}
use Rattle.hcl_token.proofs.LineLemmas.{count_none, last_line-none, length-last_line, none_by_length, some_by_length}
use Rattle.hcl_token.proofs.PlaceLemmas.{column-none, column-some, place_is}
use Rattle.hcl_token.proofs.line_column.place_after_ascii.Goals as goal

pub returns-then-last-piece : goal.returns-then-last-piece
returns-then-last-piece c =
    let piece = c.args.piece.now in
    let ends = c.requires.last in
    let none : list_any is_lf piece ≡ false = none_by_length piece (sym (ap length ends) ∙ c.if-last-piece.true) in
    let width = ap length (ends ∙ last_line-none piece none) in
    let counted = clusters-ascii c.args.last.now c.requires.ascii in
    let whole = ap clusters (ends ∙ last_line-none piece none) in
    place_is _ _ _ _ (omega (arith, count_none piece none)) (omega (arith, column-none c.args.at piece none, width, counted, whole))

pub returns-else-last-piece : goal.returns-else-last-piece
returns-else-last-piece c =
    let piece = c.args.piece.now in
    let ends = ap length c.requires.last in
    let some : list_any is_lf piece ≡ true = some_by_length piece (omega (arith, ends, c.if-last-piece.false, length-last_line piece)) in
    let counted = clusters-ascii c.args.last.now c.requires.ascii in
    let line = ap clusters c.requires.last in
    place_is _ _ _ _ (ap (λ n. c.args.at.line + n) c.count_line_feeds.ensures.value) (omega (arith, column-some c.args.at piece some, counted, line))
