use Rattle.std.proofs.Common.{◌≡◌, ℕ, ◌+◌, drop, slice_range, count_by, ap, ◌∙◌, arith}
use Rattle.std.proofs.lemmas.List.Folds.{drop_split}
use Rattle.hcl_token.specs.Place.{is_lf}
use Rattle.hcl_token.proofs.LineLemmas.{count-append}
use Rattle.hcl_token.proofs.line_column.count_line_feeds.Goals as goal

pub loop-from-preserved : goal.loop-from-preserved
loop-from-preserved c =
    let piece = c.args.piece.now in
    let from : ℕ = c.loop-from.from in
    let split : count_by is_lf (drop from piece) ≡ count_by is_lf (slice_range piece from (from + 224)) + count_by is_lf (drop (from + 224) piece) =
    ap (count_by is_lf) (drop_split piece from (from + 224) (omega arith)) ∙ count-append (slice_range piece from (from + 224)) (drop (from + 224) piece) in
    (omega arith, omega (arith, c.loop-from.invariant.1, split, c.from-count.ensures))
