use Rattle.std.proofs.Common.{◌≡◌, ◌<◌, ◌-◌, [], slice_range, bit_and, ap₂, subst, arith}
use Rattle.hcl_layout.specs.Gaps.Space.{prev_after_all}
use Rattle.hcl_layout.proofs.GapsLemmas.FlagLemmas.{flags_decide_space, flags_decide_no_space}
use Rattle.hcl_layout.proofs.gaps.spacing_flags.gap_len.Goals as goal

pub returns-else-flags-eq0-2-clause-value : goal.returns-else-flags-eq0-2-clause-value
returns-else-flags-eq0-2-clause-value c =
    let flags = ap₂ bit_and c.flags_after.ensures c.flags_before.ensures in
    flags_decide_space (prev_after_all (slice_range c.args.scanned.now.pairs c.args.first (c.args.i - 1)) []) c.args.scanned.now.pairs c.args.i c.args.a c.args.b
    (omega (arith, c.requires.after_first)) c.requires.within c.requires.a c.requires.b
    (subst (λ n. 0 < n) flags (omega (arith, c.if-flags-eq0.false))) (subst (λ n. 0 < bit_and n 7) flags (omega (arith, c.if-flags-eq0-2.false)))

pub returns-then-flags-eq0-2-clause-value : goal.returns-then-flags-eq0-2-clause-value
returns-then-flags-eq0-2-clause-value c =
    let flags = ap₂ bit_and c.flags_after.ensures c.flags_before.ensures in
    flags_decide_no_space (prev_after_all (slice_range c.args.scanned.now.pairs c.args.first (c.args.i - 1)) []) c.args.scanned.now.pairs c.args.i c.args.a c.args.b
    (omega (arith, c.requires.after_first)) c.requires.within c.requires.a c.requires.b
    (subst (λ n. 0 < n) flags (omega (arith, c.if-flags-eq0.false))) (subst (λ n. bit_and n 7 ≡ 0) flags (omega (arith, c.if-flags-eq0-2.true)))
