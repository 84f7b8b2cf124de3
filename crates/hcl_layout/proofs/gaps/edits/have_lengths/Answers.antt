use Rattle.std.proofs.Common.{sym, ◌∙◌, arith}
use Rattle.hcl_layout.proofs.GapsLemmas.GapLengths.{lengths_step, lengths_end, after_first_token}
use Rattle.hcl_layout.proofs.gaps.edits.have_lengths.Goals as goal

pub loop-i-preserved : goal.loop-i-preserved
loop-i-preserved c =
    lengths_step c.args.gaps.now c.args.scanned.now.pairs c.loop-i.i c.args.to c.old_gap_len.result c.loop-i.same c.requires.same c.loop-i-test.true c.requires.within c.old_gap_len.ensures
    ∙ c.loop-i.invariant

pub returns : goal.returns
returns c =
    sym (lengths_end c.args.gaps.now c.args.scanned.now.pairs c.loop-i.i c.args.to c.loop-i.same (omega (arith, c.loop-i-test.false)))
    ∙ c.loop-i.invariant
    ∙ sym (after_first_token c.args.from _ (omega (arith, c.if-from-eq0.false)))
