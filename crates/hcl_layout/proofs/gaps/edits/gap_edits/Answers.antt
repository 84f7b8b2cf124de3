use Rattle.std.proofs.Common.{◌≡◌, ℕ, ◌+◌, ◌-◌, ◌++◌, List, [], ◌∷◌, length, sym, ap, ap₂, ◌∙◌, arith}
use Rattle.edit_record.specs.Lists.Pieces.{EditEntry, changed_entries}
use Rattle.hcl_token.specs.Tokens.{whole_text}
use Rattle.hcl_layout.specs.Gaps.Layout.{gap_piece}
use Rattle.hcl_layout.specs.Gaps.Inner.Stages.{with_gaps}
use Rattle.hcl_layout.proofs.GapsLemmas.EditLemmas.{remaining_edits, remaining_push, remaining_unchanged_to, remaining_last, remaining_first, last_at, last_fits}
use Rattle.hcl_layout.proofs.gaps.edits.gap_edits.Goals as goal

pub loop-i-init : goal.loop-i-init
loop-i-init c =
    let i = c.next_change-i.result in
    record {
      within = c.next_change-i.ensures.within;
      edits_remain =
          ap (λ (es : List EditEntry). es ++ remaining_edits c.args.scanned.now.pairs (with_gaps c.args.gaps.now c.args.scanned.now.pairs) c.args.scanned.now.last i) c.new-edits.ensures.items
          ∙ remaining_unchanged_to c.args.scanned.now.pairs c.args.gaps.now c.args.scanned.now.last [] c.requires.same i 0 i (omega arith) c.next_change-i.ensures.within c.next_change-i.ensures.stay;
    }

pub loop-i-preserved : goal.loop-i-preserved
loop-i-preserved c =
    let ps = c.args.scanned.now.pairs in
    let i = c.loop-i.i in
    let to = c.next_change-next.result in
    record {
      within = c.next_change-next.ensures.within;
      edits_remain =
          remaining_unchanged_to ps c.args.gaps.now c.args.scanned.now.last c.push_gap.new.edits.items c.requires.same (to - (i + 1)) (i + 1) to (omega (arith, c.next_change-next.ensures.later)) c.next_change-next.ensures.within c.next_change-next.ensures.stay
          ∙ remaining_push ps c.args.gaps.now c.args.scanned.now.last i c.loop-i.edits.items c.push_gap.new.edits.items c.item-item.result c.gap.result.now c.requires.same
          (omega (arith, c.loop-i-test.true, c.len.ensures.value)) c.item-item.ensures c.gap.ensures.value c.in_ok-push_gap.ensures
          ∙ c.loop-i.invariant.edits_remain;
    }

pub overflow_sub-text : goal.overflow_sub-text
overflow_sub-text c =
    omega (arith, last_fits c.args.scanned.now.pairs c.args.scanned.now.last c.args.scanned.now.text c.text.ensures.tokenization.tokenizes.text_is, ap length c.text.ensures.text, ap length c.last_gap-last.ensures)

pub returns : goal.returns
returns c =
    let ps = c.args.scanned.now.pairs in
    let last = c.args.scanned.now.last in
    let at : length c.text.result.now - length c.last_gap-last.result.now ≡ length (whole_text ps []) =
    omega (arith, last_at ps last c.args.scanned.now.text c.text.ensures.tokenization.tokenizes.text_is, ap length c.text.ensures.text, ap length c.last_gap-last.ensures) in
    let edit = ap₂ (λ n (g : List ℕ). changed_entries n (gap_piece g [] ∷ [])) at c.last_gap-last.ensures in
    c.in_ok-push_gap-2.ensures
    ∙ ap (λ (es : List EditEntry). c.loop-i.edits.items ++ es) (edit ∙ sym (remaining_last ps c.args.gaps.now last c.loop-i.i c.requires.same (omega (arith, c.loop-i-test.false, c.len.ensures.value))))
    ∙ c.loop-i.invariant.edits_remain
    ∙ remaining_first ps (with_gaps c.args.gaps.now ps) last
