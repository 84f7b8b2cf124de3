use Rattle.std.proofs.Common.{length, reverse, slice_range, take, [], refl, true}
use Rattle.hcl_layout.specs.Gaps.Space.{prev_after_all}
use Rattle.hcl_layout.proofs.GapsLemmas.LinePass.{kept_line}
use Rattle.hcl_layout.proofs.GapsLemmas.NearLemmas.{set_step}
use Rattle.hcl_layout.proofs.gaps.base_gaps.fill_frozen_line.Goals as goal

pub returns-clause-gaps : goal.returns-clause-gaps
returns-clause-gaps c =
    let ps = c.args.scanned.now.pairs in
    let line = c.line_at-line.result in
    let split = c.line_at-line.ensures.split in
    let s1 = reverse c.close_earlier.new.surplus.items in
    let gaps = kept_line ps c.args.at line.past (length s1) (prev_after_all (slice_range ps c.args.first c.args.at) []) (take c.args.at c.args.gaps.now.items) (take line.past c.fill_kept.new.gaps.items)
    split.more split.within c.fill_kept.ensures.filled in
    set_step ps c.args.first c.args.at true line.past line.next_frozen c.count_brackets-opened.result.0 c.count_brackets-opened.result.1 (length s1)
    (reverse c.args.surplus.now.items) s1 (reverse c.push_opened.new.surplus.items) (take c.args.at c.args.gaps.now.items) (take line.past c.fill_kept.new.gaps.items)
    c.requires.not_before_first split c.count_brackets-opened.ensures.opened c.count_brackets-opened.ensures.closed c.close_earlier.ensures.open
    refl gaps c.in_ok-push_opened.ensures.open
