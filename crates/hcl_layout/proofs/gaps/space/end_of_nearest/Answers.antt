use Rattle.std.proofs.Common.{sym, ◌∙◌, arith}
use Rattle.hcl_layout.proofs.GapsLemmas.NearLemmas.{is_over, nearest_there}
use Rattle.hcl_layout.proofs.gaps.space.end_of_nearest.Goals as goal

pub returns-then-not-is_skipped_by_spacing : goal.returns-then-not-is_skipped_by_spacing
returns-then-not-is_skipped_by_spacing c =
    let old = c.loop-past.invariant in
    nearest_there c.args.scanned.now.pairs c.args.first c.args.to c.loop-past.past c.kind.result c.loop-past-test.true old.within c.requires.within c.kind.ensures (sym c.is_skipped_by_spacing.ensures ∙ c.if-not-is_skipped_by_spacing.true) old.same

pub loop-past-preserved : goal.loop-past-preserved
loop-past-preserved c =
    let old = c.loop-past.invariant in
    record {
      later = omega (arith, c.loop-past-test.true);
      within = omega (arith, old.within);
      same = sym (is_over c.args.scanned.now.pairs c.args.first c.loop-past.past c.kind.result c.loop-past-test.true (omega (arith, old.within, c.requires.within)) c.kind.ensures (sym c.is_skipped_by_spacing.ensures ∙ c.if-not-is_skipped_by_spacing.false)) ∙ old.same;
    }
