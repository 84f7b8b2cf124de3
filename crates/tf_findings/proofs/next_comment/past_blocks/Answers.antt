use Rattle.std.proofs.Common.{◌+◌, arith}
use Rattle.tf_findings.proofs.NextCommentLemmas.{none_joined}
use Rattle.tf_findings.proofs.next_comment.past_blocks.Goals as goal

pub free-preserved : goal.free-preserved
free-preserved c =
    let at = c.free.at in
    record {
      later = omega (arith, c.free.invariant.later);
      within = omega (arith, c.free-test.true, c.free.invariant.within, c.len.ensures.value);
      none = none_joined c.args.scanned.now.pairs c.args.from at (at + 32) c.free.invariant.none (c.is_free_block.ensures.free c.if-not-is_free_block.false);
    }
