use Rattle.std.proofs.Common.{◌≡◌, ◌==◌, ◌<◌, ◌≤◌, length, sym, subst, ap, ◌∙◌, arith}
use Rattle.hcl_layout.specs.Gaps.Inner.Stages.{with_gaps, AreUnchanged}
use Rattle.hcl_layout.proofs.GapsLemmas.EditLemmas.{still_first, still_to, still_changed, still_end}
use Rattle.hcl_layout.proofs.GapsLemmas.GapLengths.{stay_both}
use Rattle.hcl_layout.proofs.gaps.edits.all_unchanged.Goals.{then-all_spaces, else-all_spaces}
use Rattle.hcl_layout.proofs.gaps.edits.all_unchanged.Goals as goal

pub returns-then-first_change-near : goal.returns-then-first_change-near
returns-then-first_change-near c =
    let ps = c.args.scanned.now.pairs in
    let ns = c.args.gaps.now in
    let last = c.args.scanned.now.last in
    let i = c.first_change.result in
    let short : c.if-all_spaces.near ≤ length ps = elim c.if-all_spaces.branch [
      | then-all_spaces w ↦ omega (arith, w.near-is)
      | else-all_spaces w ↦ omega (arith, w.near-is, w.min-near.ensures, w.len.ensures.value)
    ] in
    let inside : i < length ps = omega (arith, c.if-first_change-near.true, short) in
    sym (still_changed ps ns last i c.requires.same inside (c.first_change.ensures.changes c.if-first_change-near.true))
    ∙ (sym (still_to ps ns last c.requires.same i 0 i (omega arith) (omega (arith, inside)) c.first_change.ensures.stay)
    ∙ still_first ps (with_gaps ns ps) last)

pub returns-then-next_change-len : goal.returns-then-next_change-len
returns-then-next_change-len c =
    let ps = c.args.scanned.now.pairs in
    let ns = c.args.gaps.now in
    let last = c.args.scanned.now.last in
    let i = c.next_change.result in
    let all_near : c.first_change.result ≡ c.if-all_spaces.near = omega (arith, c.if-first_change-near.false, c.first_change.ensures.within) in
    let stay = stay_both ps ns 0 c.if-all_spaces.near i (subst (AreUnchanged ps ns 0) all_near c.first_change.ensures.stay) c.next_change.ensures.stay in
    let inside : i < length ps = omega (arith, c.if-next_change-len.true, c.len-2.ensures.value) in
    sym (still_changed ps ns last i c.requires.same inside (c.next_change.ensures.changes inside))
    ∙ (sym (still_to ps ns last c.requires.same i 0 i (omega arith) c.next_change.ensures.within stay)
    ∙ still_first ps (with_gaps ns ps) last)

pub returns : goal.returns
returns c =
    let ps = c.args.scanned.now.pairs in
    let ns = c.args.gaps.now in
    let last = c.args.scanned.now.last in
    let i = c.next_change.result in
    let all_near : c.first_change.result ≡ c.if-all_spaces.near = omega (arith, c.if-first_change-near.false, c.first_change.ensures.within) in
    let stay = stay_both ps ns 0 c.if-all_spaces.near i (subst (AreUnchanged ps ns 0) all_near c.first_change.ensures.stay) c.next_change.ensures.stay in
    c.is_empty.ensures ∙ ap (λ l. length l == 0) c.last_gap.ensures
    ∙ sym (still_end ps ns last i c.requires.same (omega (arith, c.if-next_change-len.false, c.len-2.ensures.value)))
    ∙ (sym (still_to ps ns last c.requires.same i 0 i (omega arith) c.next_change.ensures.within stay)
    ∙ still_first ps (with_gaps ns ps) last)
