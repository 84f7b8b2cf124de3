use Rattle.std.proofs.Common.{◌+◌, ◌≤◌, nat_lt, length, slice_range, refl, sym, ◌∙◌, arith}
use Rattle.std.proofs.lemmas.Bool.{and_parts}
use Rattle.hcl_layout.specs.Gaps.Inner.Stages.{have_lengths}
use Rattle.hcl_layout.proofs.GapsLemmas.GapLengths.{lengths_stay, stay_both}
use Rattle.hcl_layout.proofs.gaps.changes.end_of_blocks.Goals as goal

pub loop-at-init : goal.loop-at-init
loop-at-init c = record {
  later = omega arith;
  within = c.requires.within;
  stay = λ k g later before g_is. absurd (omega arith);
}

pub loop-at-preserved : goal.loop-at-preserved
loop-at-preserved c =
    let ps = c.args.scanned.now.pairs in
    let ns = c.args.gaps.now in
    let at = c.loop-at.at in
    let within : at + 16 ≤ length ps = omega (arith, c.loop-at-test.true, c.len.ensures.value, c.loop-at.invariant.within) in
    let same = and_parts (nat_lt 0 at) (have_lengths (slice_range ns at (at + 16)) (slice_range ps at (at + 16))) (sym c.have_lengths.ensures ∙ c.if-not-have_lengths.false) in
    let block = lengths_stay ns ps c.requires.same c.requires.spaces 16 at (at + 16) refl within same.1 in
    record {
      later = omega (arith, c.loop-at.invariant.later);
      within = within;
      stay = stay_both ps ns c.args.from at (at + 16) c.loop-at.invariant.stay block;
    }

pub returns-then-not-have_lengths-clause-end : goal.returns-then-not-have_lengths-clause-end
returns-then-not-have_lengths-clause-end c = λ fits. sym c.have_lengths.ensures ∙ c.if-not-have_lengths.true

pub returns-clause-end : goal.returns-clause-end
returns-clause-end c = λ fits. absurd (omega (arith, fits, c.loop-at-test.false, c.len.ensures.value))
