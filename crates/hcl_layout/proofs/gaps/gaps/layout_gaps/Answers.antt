use Rattle.std.proofs.Common.{ℕ, List, [], ◌++◌, drop, ap, ◌∙◌}
use Rattle.hcl_layout.specs.Gaps.Inner.Stages.{lines_from, all_gap_lens}
use Rattle.hcl_layout.proofs.GapsLemmas.Compose.{known, prefix_unchanged, first_size, first_stage, zero_lines, one_lines, zero_within_width, one_within_width, stages_made}
use Rattle.hcl_layout.proofs.gaps.gaps.layout_gaps.Goals as goal

pub fill_base_gaps-requires-clause-within_limit : goal.fill_base_gaps-requires-clause-within_limit
fill_base_gaps-requires-clause-within_limit c = (known c.args.scanned.now.text c.args.scanned.now.pairs c.args.scanned.now.last c.requires.tokenization c.requires.utf8).few

pub align-requires-clause-within_limit : goal.align-requires-clause-within_limit
align-requires-clause-within_limit c = (known c.args.scanned.now.text c.args.scanned.now.pairs c.args.scanned.now.last c.requires.tokenization c.requires.utf8).few

pub align-requires-2-clause-within_limit : goal.align-requires-2-clause-within_limit
align-requires-2-clause-within_limit c = (known c.args.scanned.now.text c.args.scanned.now.pairs c.args.scanned.now.last c.requires.tokenization c.requires.utf8).few

pub align-requires-clause-same : goal.align-requires-clause-same
align-requires-clause-same c = first_size c.args.scanned.now.pairs c.mark_count-first.result c.fill_base_gaps.new.gaps.items c.mark_count-first.ensures.within (c.in_ok-spans.ensures.gaps ∙ ap (λ (g : List ℕ). g ++ all_gap_lens [] [] (lines_from 0 (drop c.mark_count-first.result c.args.scanned.now.pairs))) (prefix_unchanged c.args.scanned.now.pairs c.mark_count-first.result c.in_ok-gaps.gaps.items c.mark_count-first.ensures.within c.in_ok-gaps.ensures))

pub align-requires-clause-bounded : goal.align-requires-clause-bounded
align-requires-clause-bounded c =
    let ps = c.args.scanned.now.pairs in
    let k = known c.args.scanned.now.text ps c.args.scanned.now.last c.requires.tokenization c.requires.utf8 in
    let zero = first_stage ps c.mark_count-first.result c.fill_base_gaps.new.gaps.items c.mark_count-first.ensures.within k.few (c.in_ok-spans.ensures.gaps ∙ ap (λ (g : List ℕ). g ++ all_gap_lens [] [] (lines_from 0 (drop c.mark_count-first.result c.args.scanned.now.pairs))) (prefix_unchanged c.args.scanned.now.pairs c.mark_count-first.result c.in_ok-gaps.gaps.items c.mark_count-first.ensures.within c.in_ok-gaps.ensures)) in
    zero_within_width ps c.mark_count-first.result c.fill_base_gaps.new.gaps.items k.utf8 k.few k.short (zero_lines ps c.mark_count-first.result c.fill_base_gaps.new.gaps.items c.mark_count-first.ensures.within zero)

pub align-requires-2-clause-bounded : goal.align-requires-2-clause-bounded
align-requires-2-clause-bounded c =
    let ps = c.args.scanned.now.pairs in
    let k = known c.args.scanned.now.text ps c.args.scanned.now.last c.requires.tokenization c.requires.utf8 in
    let zero = first_stage ps c.mark_count-first.result c.fill_base_gaps.new.gaps.items c.mark_count-first.ensures.within k.few (c.in_ok-spans.ensures.gaps ∙ ap (λ (g : List ℕ). g ++ all_gap_lens [] [] (lines_from 0 (drop c.mark_count-first.result c.args.scanned.now.pairs))) (prefix_unchanged c.args.scanned.now.pairs c.mark_count-first.result c.in_ok-gaps.gaps.items c.mark_count-first.ensures.within c.in_ok-gaps.ensures)) in
    let lines = zero_lines ps c.mark_count-first.result c.fill_base_gaps.new.gaps.items c.mark_count-first.ensures.within zero in
    one_within_width ps c.mark_count-first.result c.align.new.gaps.items k.utf8 k.few k.short (one_lines ps c.mark_count-first.result c.fill_base_gaps.new.gaps.items c.align.new.gaps.items lines c.in_ok-align.ensures.aligned)

pub returns-clause-layout : goal.returns-clause-layout
returns-clause-layout c =
    let ps = c.args.scanned.now.pairs in
    let k = known c.args.scanned.now.text ps c.args.scanned.now.last c.requires.tokenization c.requires.utf8 in
    let zero = first_stage ps c.mark_count-first.result c.fill_base_gaps.new.gaps.items c.mark_count-first.ensures.within k.few (c.in_ok-spans.ensures.gaps ∙ ap (λ (g : List ℕ). g ++ all_gap_lens [] [] (lines_from 0 (drop c.mark_count-first.result c.args.scanned.now.pairs))) (prefix_unchanged c.args.scanned.now.pairs c.mark_count-first.result c.in_ok-gaps.gaps.items c.mark_count-first.ensures.within c.in_ok-gaps.ensures)) in
    stages_made ps c.mark_count-first.result c.fill_base_gaps.new.gaps.items c.align.new.gaps.items c.align-2.new.gaps.items c.mark_count-first.ensures.value c.mark_count-first.ensures.within (record {
      zero_is = zero;
      one_is = c.in_ok-align.ensures.aligned;
      one_prefix = c.in_ok-align.ensures.prefix;
      two_is = c.in_ok-align-2.ensures.aligned;
      two_prefix = c.in_ok-align-2.ensures.prefix;
    })
