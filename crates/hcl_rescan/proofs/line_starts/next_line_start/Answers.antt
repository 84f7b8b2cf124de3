use Rattle.std.proofs.Common.{◌≡◌, ◌≤◌, ◌<◌, ◌+◌, length, [], slice_range, arith, ap, refl, sym, ◌∙◌}
use Rattle.hcl_rescan.specs.Inner.WholeLines.{openings_after}
use Rattle.hcl_scan.proofs.PairLemmas.{modes_after_pairs}
use Rattle.hcl_rescan.proofs.LineLemmas.{line_start_at_line_end}
use Rattle.hcl_rescan.proofs.DepthLemmas.{depth_more, none_open}
use Rattle.hcl_rescan.proofs.line_starts.next_line_start.Goals as goal
use Rattle.hcl_rescan.proofs.line_starts.next_line_start.Goals.{then-ends_top_level_line+else-at-limit, else-ends_top_level_line}

pub returns-then-at-limit-clause-line_start : goal.returns-then-at-limit-clause-line_start
returns-then-at-limit-clause-line_start c =
    let ordered : c.args.from.index ≤ c.loop-i.i = omega arith in
    let within : c.loop-i.i < length c.args.old.now.pairs = omega arith in
    let known = c.if-ends_top_level_line.ensures in
    let none = none_open _ c.loop-i.depth c.loop-i.invariant.depth (known.none refl) in
    (line_start_at_line_end c.args.old.now c.args.from.index c.args.from.at c.loop-i.i c.kind-kind.result c.item-at.result c.requires ordered within c.kind-kind.ensures (known.kind refl) c.item-at.ensures none).0

pub loop-i-preserved : goal.loop-i-preserved
loop-i-preserved c =
    let old = c.args.old.now in
    let from = c.args.from.index in
    let i = c.loop-i.i in
    let depth = c.loop-i.depth in
    let kind = c.kind-kind.result in
    let known = c.loop-i.invariant in
    let ordered : from ≤ i = omega arith in
    let within : i < length old.pairs = omega arith in
    let more : openings_after kind depth ≡ length (modes_after_pairs [] (slice_range old.pairs from (i + 1))) = depth_more old from c.args.from.at i depth kind c.requires ordered within c.kind-kind.ensures known.depth in
    elim c.if-ends_top_level_line.branch [ then-ends_top_level_line+else-at-limit w ↦ record { depth = w.depth-is ∙ sym (ap (λ k. openings_after k depth) (w.if-ends_top_level_line.ensures.kind refl)) ∙ more; few = omega (arith, w.depth-is, known.few) } | else-ends_top_level_line w ↦ record { depth = w.depth-is ∙ w.openings_after-depth.ensures.value ∙ more; few = omega (arith, w.depth-is, w.openings_after-depth.ensures.small, known.few) } ]
