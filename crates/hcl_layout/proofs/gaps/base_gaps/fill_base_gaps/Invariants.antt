use Rattle.std.proofs.Common.{◌≡◌, ◌≤◌, ◌-◌, ◌++◌, [], false, length, drop, take}
use Rattle.hcl_layout.specs.Gaps.Inner.CodeViews.{gaps_left}
use Rattle.hcl_layout.specs.Gaps.Inner.Stages.{lines_from, all_gap_lens}
use Rattle.hcl_layout.proofs.GapsLemmas.LineSpans.{SpansTo}
use Rattle.hcl_layout.proofs.gaps.base_gaps.fill_base_gaps.Given as goal

abbrev pub invariant-loop-at : goal.invariant-loop-at
invariant-loop-at l = record {
  left : gaps_left l.scanned.pairs l.first l.at l.frozen (take l.at l.gaps.items) l.surplus.items
      ≡ take l.first l.fn.gaps.items ++ all_gap_lens [] [] (lines_from 0 (drop l.first l.scanned.pairs));
  spans : SpansTo l.scanned.pairs l.first false l.spans.items l.at l.frozen;
  not_before_first : l.first ≤ l.at;
  within : l.at ≤ length l.scanned.pairs;
  same : length l.gaps.items ≡ length l.scanned.pairs;
  small : length l.surplus.items ≤ l.at;
}

abbrev pub decreases-loop-at : goal.decreases-loop-at
decreases-loop-at l = length l.scanned.pairs - l.at
