use Rattle.std.proofs.Common.{map, refl, sym, append-nil}
use Rattle.tf_findings.proofs.WalkLemmas.{whole, loop_step, finished}
use Rattle.tf_rules.specs.Preorder.{member}
use Rattle.tf_findings.proofs.bodies.+bodies.Goals as goal

pub walk_members-loop-x-preserved : goal.walk_members-loop-x-preserved
walk_members-loop-x-preserved t c =
    loop_step (map member) _ c.loop-x.x-index c.x-item.result _ _ c.x-item.is c.loop-x-test.true refl c.loop-x.invariant (whole (member c.x-item.result) (sym (append-nil _)) c.in_ok-walk_member.ensures)

pub walk_members-returns : goal.walk_members-returns
walk_members-returns t c = finished (map member) _ c.loop-x.x-index c.loop-x-test.false refl c.loop-x.invariant
