use Rattle.std.proofs.Common.{◌≡◌, ℕ, List, Some, get_or, sym, ap, subst, ◌∙◌, arith}
use Rattle.std.specs.Str.{bytes_eq}
use Rattle.hcl_layout.specs.Gaps.Inner.Stages.{resolved_gap, AreUnchanged}
use Rattle.hcl_layout.proofs.GapsLemmas.Copied.{stay_more}
use Rattle.hcl_layout.proofs.gaps.changes.first_change.Goals as goal

pub loop-i-init : goal.loop-i-init
loop-i-init c = record {
  later = omega arith;
  stay = λ k g later before g_is. absurd (omega arith);
}

pub loop-i-preserved : goal.loop-i-preserved
loop-i-preserved c = record {
  later = omega (arith, c.loop-i.invariant.later);
  stay = stay_more c.args.scanned.now.pairs c.args.gaps.now c.args.from c.loop-i.i c.gap.result.now c.gap.ensures.value (sym c.is_unchanged.ensures ∙ c.if-not-is_unchanged.false) c.loop-i.invariant.stay;
}

pub returns-clause-stay : goal.returns-clause-stay
returns-clause-stay c =
    let top = c.loop-i.auto.i-end c.requires.ordered in
    let end : c.loop-i.i ≡ c.args.to = omega (arith, top, c.loop-i-test.false) in
    subst (AreUnchanged c.args.scanned.now.pairs c.args.gaps.now c.args.from) end c.loop-i.invariant.stay

pub returns-then-not-is_unchanged-clause-changes : goal.returns-then-not-is_unchanged-clause-changes
returns-then-not-is_unchanged-clause-changes c = λ less g g_is.
    let both : Some g ≡ Some c.gap.result.now = g_is ∙ sym c.gap.ensures.value in
    let same : g ≡ c.gap.result.now = cc in
    ap (λ (x : List ℕ). bytes_eq x (resolved_gap (get_or c.args.gaps.now c.loop-i.i 0) x)) same ∙ sym c.is_unchanged.ensures ∙ c.if-not-is_unchanged.true

pub returns-clause-changes : goal.returns-clause-changes
returns-clause-changes c = λ less g g_is. absurd (omega (arith, less))
