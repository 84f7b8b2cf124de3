use Rattle.std.proofs.Common.{arith}
use Rattle.hcl_layout.proofs.GapsLemmas.WidthLemmas.{width_step}
use Rattle.hcl_layout.proofs.gaps.cells.width.Goals as goal

pub overflow_add-width : goal.overflow_add-width
overflow_add-width c =
    omega (arith, width_step c.args.gaps.now c.args.scanned.now.pairs c.loop-i.i c.args.to c.current_gap_len.result c.cluster_count.result c.requires.same c.loop-i-test.true c.requires.within c.current_gap_len.ensures c.cluster_count.ensures, c.loop-i.invariant, c.requires.bounded)

pub overflow_add-width-in-loop-i : goal.overflow_add-width-in-loop-i
overflow_add-width-in-loop-i c =
    omega (arith, width_step c.args.gaps.now c.args.scanned.now.pairs c.loop-i.i c.args.to c.current_gap_len.result c.cluster_count.result c.requires.same c.loop-i-test.true c.requires.within c.current_gap_len.ensures c.cluster_count.ensures, c.loop-i.invariant, c.requires.bounded)

pub loop-i-preserved : goal.loop-i-preserved
loop-i-preserved c =
    omega (arith, width_step c.args.gaps.now c.args.scanned.now.pairs c.loop-i.i c.args.to c.current_gap_len.result c.cluster_count.result c.requires.same c.loop-i-test.true c.requires.within c.current_gap_len.ensures c.cluster_count.ensures, c.loop-i.invariant)
