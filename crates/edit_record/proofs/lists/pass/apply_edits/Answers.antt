use Rattle.std.proofs.Common.{◌≡◌, ◌+◌, ◌-◌, ◌++◌, length, drop, arith, ap, refl, ◌∙◌}
use Rattle.std.proofs.lemmas.List.{take_rest, length-drop}
use Rattle.std.proofs.lemmas.Slice.{pushed}
use Rattle.edit_record.proofs.ListsLemmas.Placed.{SpaceLeft, drop_item, has_space}
use Rattle.edit_record.proofs.ListsLemmas.Steps.{step_walks}
use Rattle.edit_record.proofs.lists.pass.apply_edits.Goals as goal

pub split_at-requires : goal.split_at-requires
split_at-requires c =
    let es = c.args.edits.now in
    let e = c.index-edits-i.result in
    let rest = drop_item es c.loop-i.i e c.loop-i-test.true c.index-edits-i.is in
    let placed = rw rest at c.loop-i.invariant.disjoint in
    let within_len = rw rest at c.loop-i.invariant.in_bounds in
    let h = has_space c.args.direction c.args.old_len c.loop-i.old_end (length c.loop-i.rest.now) e (drop (c.loop-i.i + 1) es) placed within_len in
    omega (arith, h.fits)

pub loop-i-preserved : goal.loop-i-preserved
loop-i-preserved c =
    let es = c.args.edits.now in
    let e = c.index-edits-i.result in
    let t = c.loop-i.rest.now in
    let rest = drop_item es c.loop-i.i e c.loop-i-test.true c.index-edits-i.is in
    let placed = rw rest at c.loop-i.invariant.disjoint in
    let within_len = rw rest at c.loop-i.invariant.in_bounds in
    let is_walk = rw rest at c.loop-i.invariant.is_walk in
    let h = has_space c.args.direction c.args.old_len c.loop-i.old_end (length t) e (drop (c.loop-i.i + 1) es) placed within_len in
    let first : c.extend_from_slice.new.self.items ≡ c.loop-i.out.items ++ c.split_at.result.0.now = pushed c.split_at.result.0.now refl c.in_ok-extend_from_slice.was c.extend_from_slice.ensures.items in
    let second : c.extend_from_slice-in-loop-i.new.self.items ≡ (c.loop-i.out.items ++ c.split_at.result.0.now) ++ c.written_bytes.result.now = pushed c.written_bytes.result.now first c.in_ok-extend_from_slice-2.was c.extend_from_slice-in-loop-i.ensures.items in
    let fits = h.fits in
    let len = ap length c.removed.ensures in
    let leading = rw c.at.ensures at c.split_at.ensures.front in
    let back = rw c.at.ensures at c.split_at.ensures.back in
    let end = c.at-in-loop-i.ensures in
    let next : SpaceLeft c.args.direction c.args.old_len (e.at + length e.removed) (length t - (e.at - c.loop-i.old_end) - length c.read_bytes-read.result.now) (drop (c.loop-i.i + 1) es) = rw c.read_bytes-read.ensures h.next in
    record {
      is_walk = rw end (step_walks c.args.direction c.loop-i.i c.loop-i.old_end e (drop (c.loop-i.i + 1) es) c.loop-i.out.items _ _ _ _ _ t (length c.removed.result.now) c.starts_with.result leading back c.read_bytes-read.ensures c.written_bytes.ensures second len c.starts_with.ensures.value c.if-not-starts_with.false h.later (omega arith) ∙ is_walk);
      disjoint = rw (end, len) placed.1;
      in_bounds = rw (take_rest, length-drop, end, len, back, length-drop) next;
    }
