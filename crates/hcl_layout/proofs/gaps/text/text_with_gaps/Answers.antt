use Rattle.std.proofs.Common.{◌≡◌, ◌+◌, ◌-◌, ◌<◌, ◌++◌, List, ℕ, length, drop, slice_range, [], ap, ◌∙◌, arith, length-append}
use Rattle.hcl_token.specs.Tokens.{whole_text}
use Rattle.hcl_layout.specs.Gaps.Inner.Stages.{with_gaps}
use Rattle.hcl_layout.proofs.GapsLemmas.EditLemmas.{last_fits}
use Rattle.hcl_layout.proofs.GapsLemmas.Copied.{reached, nothing_yet, spelling_there, gap_place, next, within, changes, stay_to, all_copied}
use Rattle.hcl_layout.proofs.gaps.text.text_with_gaps.Goals as goal

pub slice-requires-clause-ordered : goal.slice-requires-clause-ordered
slice-requires-clause-ordered c =
    let inside : c.loop-i.i < length c.args.scanned.now.pairs = omega (arith, c.loop-i-test.true, c.len.ensures.value) in
    let place = gap_place c.args.scanned.now.pairs c.loop-i.i c.item-item.result c.gap-gap.result.now inside c.item-item.ensures c.gap-gap.ensures.value in
    omega (arith, place.0, c.loop-i.invariant.following)

pub slice-requires-clause-within : goal.slice-requires-clause-within
slice-requires-clause-within c =
    let ps = c.args.scanned.now.pairs in
    let inside : c.loop-i.i < length ps = omega (arith, c.loop-i-test.true, c.len.ensures.value) in
    let (s, s_is) = spelling_there ps c.loop-i.i inside in
    let source_is = c.text-source.ensures.text ∙ c.text-source.ensures.tokenization.tokenizes.text_is in
    let place = gap_place ps c.loop-i.i c.item-item.result c.gap-gap.result.now inside c.item-item.ensures c.gap-gap.ensures.value in
    let fits = within ps c.args.scanned.now.last c.loop-i.i c.gap-gap.result.now s inside c.gap-gap.ensures.value s_is c.text-source.result.now source_is in
    let more = next ps c.args.scanned.now.last c.loop-i.i c.gap-gap.result.now s inside c.gap-gap.ensures.value s_is in
    omega (arith, place.0, fits, more)

pub loop-i-init : goal.loop-i-init
loop-i-init c =
    let ps = c.args.scanned.now.pairs in
    let source = c.text-source.result.now in
    let source_is = c.text-source.ensures.text ∙ c.text-source.ensures.tokenization.tokenizes.text_is in
    let none = nothing_yet source ps c.in_ok-text.text.items _ c.in_ok-text.ensures.items in
    let i = c.next_change-i.result in
    let far = stay_to ps c.args.scanned.now.last source source_is c.args.gaps.now c.requires.same 0 c.in_ok-text.text.items (whole_text (with_gaps c.args.gaps.now ps) []) i 0 i (omega arith) c.next_change-i.ensures.within c.next_change-i.ensures.stay (omega arith) none in
    record { within = c.next_change-i.ensures.within; written = far.1; following = far.0 }

pub loop-i-preserved : goal.loop-i-preserved
loop-i-preserved c =
    let ps = c.args.scanned.now.pairs in
    let last = c.args.scanned.now.last in
    let i = c.loop-i.i in
    let g = c.gap-gap.result.now in
    let source = c.text-source.result.now in
    let ns = c.args.gaps.now in
    let inside : i < length ps = omega (arith, c.loop-i-test.true, c.len.ensures.value) in
    let (s, s_is) = spelling_there ps i inside in
    let source_is = c.text-source.ensures.text ∙ c.text-source.ensures.tokenization.tokenizes.text_is in
    let rest : List ℕ = whole_text (drop (i + 1) (with_gaps ns ps)) [] in
    let more = next ps last i g s inside c.gap-gap.ensures.value s_is in
    let old = c.loop-i.invariant in
    let place = gap_place ps i c.item-item.result g inside c.item-item.ensures c.gap-gap.ensures.value in
    let copied = c.in_ok-extend_from_slice.ensures.items ∙ ap (λ (x : List ℕ). c.loop-i.text.items ++ x) (c.slice.ensures ∙ ap (slice_range source c.loop-i.from) place.0) in
    let from : c.item-item.result.start ≡ reached ps i + length g = place.1 in
    let written =
    ap (λ a. c.push_gap.new.out.items ++ (slice_range source a (reached ps (i + 1)) ++ rest)) from
    ∙ changes ps last i g s inside c.gap-gap.ensures.value s_is source source_is ns c.requires.same c.loop-i.from old.following c.loop-i.text.items _ old.written _ _ copied c.in_ok-push_gap.ensures in
    let to = c.next_change-next.result in
    let far = stay_to ps last source source_is ns c.requires.same c.item-item.result.start c.push_gap.new.out.items (whole_text (with_gaps ns ps) []) (to - (i + 1)) (i + 1) to (omega (arith, c.next_change-next.ensures.later)) c.next_change-next.ensures.within c.next_change-next.ensures.stay
    (omega (arith, from, more, length-append g s)) written in
    record { within = c.next_change-next.ensures.within; written = far.1; following = far.0 }

pub overflow_sub-end : goal.overflow_sub-end
overflow_sub-end c =
    let source_is = c.text-source.ensures.text ∙ c.text-source.ensures.tokenization.tokenizes.text_is in
    omega (arith, last_fits c.args.scanned.now.pairs c.args.scanned.now.last c.text-source.result.now source_is, ap length c.last_gap.ensures)

pub slice-requires-2-clause-ordered : goal.slice-requires-2-clause-ordered
slice-requires-2-clause-ordered c =
    let source_is = c.text-source.ensures.text ∙ c.text-source.ensures.tokenization.tokenizes.text_is in
    let whole = all_copied c.args.gaps.now c.args.scanned.now.pairs c.args.scanned.now.last c.text-source.result.now c.loop-i.i c.loop-i.from c.loop-i.text.items _ c.requires.same (omega (arith, c.loop-i-test.false, c.len.ensures.value)) source_is c.loop-i.invariant.written in
    omega (arith, whole.0, ap length c.last_gap.ensures, c.loop-i.invariant.following)

pub returns : goal.returns
returns c =
    let source = c.text-source.result.now in
    let source_is = c.text-source.ensures.text ∙ c.text-source.ensures.tokenization.tokenizes.text_is in
    let whole = all_copied c.args.gaps.now c.args.scanned.now.pairs c.args.scanned.now.last source c.loop-i.i c.loop-i.from c.loop-i.text.items _ c.requires.same (omega (arith, c.loop-i-test.false, c.len.ensures.value)) source_is c.loop-i.invariant.written in
    let end : length source - length c.last_gap.result.now ≡ reached c.args.scanned.now.pairs c.loop-i.i = omega (arith, whole.0, ap length c.last_gap.ensures) in
    c.in_ok-extend_from_slice-2.ensures.items
    ∙ ap (λ (x : List ℕ). c.loop-i.text.items ++ x) (c.slice-2.ensures ∙ ap (slice_range source c.loop-i.from) end)
    ∙ whole.1
