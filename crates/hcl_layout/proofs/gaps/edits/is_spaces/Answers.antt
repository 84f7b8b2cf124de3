use Rattle.std.proofs.Common.{sym, ap, ◌∙◌}
use Rattle.std.specs.Str.{bytes_eq}
use Rattle.hcl_layout.specs.Gaps.Space.{spaces}
use Rattle.hcl_layout.proofs.GapsLemmas.EditLemmas.{other_length, all_spaces, gap_differs, gap_next, gap_ends}
use Rattle.hcl_layout.proofs.gaps.edits.is_spaces.Goals as goal

pub returns-then-gap-len : goal.returns-then-gap-len
returns-then-gap-len c = sym (other_length c.args.gap.now c.args.len c.if-gap-len.true)

pub returns-then-all_spaces : goal.returns-then-all_spaces
returns-then-all_spaces c = all_spaces c.args.gap.now c.args.len (c.requires c.if-all_spaces.true) c.if-gap-len.false

pub returns-then-b-ne32 : goal.returns-then-b-ne32
returns-then-b-ne32 c =
    sym (gap_differs c.args.gap.now c.loop-b.b-index c.loop-b-test.true c.if-b-ne32.true)
    ∙ (c.loop-b.invariant ∙ ap (λ n. bytes_eq c.args.gap.now (spaces n)) c.if-gap-len.false)

pub loop-b-preserved : goal.loop-b-preserved
loop-b-preserved c = sym (gap_next c.args.gap.now c.loop-b.b-index c.loop-b-test.true c.if-b-ne32.false) ∙ c.loop-b.invariant

pub returns : goal.returns
returns c =
    sym (gap_ends c.args.gap.now c.loop-b.b-index c.loop-b-test.false)
    ∙ (c.loop-b.invariant ∙ ap (λ n. bytes_eq c.args.gap.now (spaces n)) c.if-gap-len.false)
