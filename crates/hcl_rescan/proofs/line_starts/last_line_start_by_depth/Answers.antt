use Rattle.std.proofs.Common.{◌≡◌, ◌≤◌, ◌<◌, ◌+◌, length, [], slice_range, arith, ap, refl, subst, sym, ◌∙◌}
use Rattle.hcl_rescan.specs.declared.line_starts.LineStart.{LineStart}
use Rattle.hcl_rescan.specs.Inner.WholeLines.{IsLineStart, IsLineRange, openings_after}
use Rattle.hcl_scan.proofs.PairLemmas.{modes_after_pairs}
use Rattle.hcl_rescan.proofs.LineLemmas.{line_start_at_line_end}
use Rattle.hcl_rescan.proofs.DepthLemmas.{depth_more, none_open}
use Rattle.hcl_rescan.proofs.line_starts.last_line_start_by_depth.Goals as goal
use Rattle.hcl_rescan.proofs.line_starts.last_line_start_by_depth.Goals.{then-ends_top_level_line+else-at-limit, else-ends_top_level_line}

pub loop-i-preserved : goal.loop-i-preserved
loop-i-preserved c =
    let old = c.args.old.now in
    let from = c.args.from.index in
    let at = c.args.from.at in
    let i = c.loop-i.i in
    let depth = c.loop-i.depth in
    let kind = c.kind-kind.result in
    let known = c.loop-i.invariant in
    let ordered : from ≤ i = omega arith in
    let within : i < length old.pairs = omega arith in
    let more : openings_after kind depth ≡ length (modes_after_pairs [] (slice_range old.pairs from (i + 1))) = depth_more old from at i depth kind c.requires ordered within c.kind-kind.ensures known.depth in
    elim c.if-ends_top_level_line.branch [
      | then-ends_top_level_line+else-at-limit w ↦
          let end = w.if-ends_top_level_line.ensures in
          let none = none_open _ depth known.depth (end.none refl) in
          let line = line_start_at_line_end old from at i kind w.item-at.result c.requires ordered within c.kind-kind.ensures (end.kind refl) w.item-at.ensures none in
          record {
            line_start = subst (λ (t : LineStart). IsLineStart old t.index t.at) (sym w.to-is) line.0;
            lines = subst (λ (t : LineStart). IsLineRange old.pairs from t.index) (sym w.to-is) line.1;
            depth = w.depth-is ∙ sym (ap (λ k. openings_after k depth) (end.kind refl)) ∙ more;
            few = omega (arith, w.depth-is, known.few);
          }
      | else-ends_top_level_line w ↦
          record {
            line_start = subst (λ (t : LineStart). IsLineStart old t.index t.at) (sym w.to-is) known.line_start;
            lines = subst (λ (t : LineStart). IsLineRange old.pairs from t.index) (sym w.to-is) known.lines;
            depth = w.depth-is ∙ w.openings_after-depth.ensures.value ∙ more;
            few = omega (arith, w.depth-is, w.openings_after-depth.ensures.small, known.few);
          }
    ]
