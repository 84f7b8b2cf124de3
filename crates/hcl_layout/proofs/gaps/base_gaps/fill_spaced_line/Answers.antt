use Rattle.std.proofs.Common.{◌≡◌, length, reverse, slice_range, slice_set, take, [], false, sym, arith}
use Rattle.std.proofs.lemmas.List.{length-reverse, length-take-le}
use Rattle.std.proofs.Math.Seq.{take-set-lt}
use Rattle.hcl_layout.specs.Gaps.Space.{prev_after_all}
use Rattle.hcl_layout.proofs.GapsLemmas.LinePass.{first_set}
use Rattle.hcl_layout.proofs.GapsLemmas.NearLemmas.{set_step}
use Rattle.hcl_layout.proofs.gaps.base_gaps.fill_spaced_line.Goals as goal

pub returns-clause-gaps : goal.returns-clause-gaps
returns-clause-gaps c =
    let ps = c.args.scanned.now.pairs in
    let line = c.fill_line-passed.result.line in
    let split = c.fill_line-passed.ensures.line.split in
    let old = take c.args.at c.args.gaps.now.items in
    let filled = c.fill_line-passed.new.gaps.items in
    let new = take line.past (slice_set filled c.args.at c.indent_len.result) in
    let place : c.args.at ≡ length old = sym (length-take-le c.args.at c.args.gaps.now.items (omega (arith, c.requires.same, c.requires.within))) in
    let gaps = first_set ps c.args.at line.past c.len.result (prev_after_all (slice_range ps c.args.first c.args.at) []) c.kind.result old new (take line.past filled) c.args.at c.indent_len.result
    split.more split.within c.kind.ensures place c.indent_len.ensures c.fill_line-passed.ensures.gaps
    (take-set-lt line.past filled c.args.at c.indent_len.result split.more) in
    set_step ps c.args.first c.args.at false line.past line.next_frozen c.fill_line-passed.result.opened c.fill_line-passed.result.closed c.len.result
    (reverse c.args.surplus.now.items) (reverse c.close_earlier.new.surplus.items) (reverse c.push_opened.new.surplus.items) old new
    c.requires.not_before_first split c.fill_line-passed.ensures.opened c.fill_line-passed.ensures.closed c.close_earlier.ensures.open
    (omega (arith, c.len.ensures, length-reverse c.close_earlier.new.surplus.items)) gaps c.in_ok-push_opened.ensures.open
