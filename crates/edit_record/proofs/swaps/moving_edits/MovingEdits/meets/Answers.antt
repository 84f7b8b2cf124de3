use Rattle.std.proofs.Common.{List, length, arith, sym, ap, ◌∙◌, subst}
use Rattle.std.specs.List.{AllByRecursion}
use Rattle.std.proofs.lemmas.Bool.{leb-true, leb-false, false≢true}
use Rattle.edit_record.specs.declared.swaps.relative_ends.EndOffset.{EndOffset}
use Rattle.edit_record.specs.Swaps.Inner.RelativeEnds.{ends_of, IsSmall}
use Rattle.edit_record.specs.Swaps.Inner.MovingEditsView.{edits_now}
use Rattle.edit_record.proofs.SwapsLemmas.RelativeEnds.FirstMeeting.{all_apart, first_met, itself, itself_adds, numbered, next_here, nothing_here, meets_none_of_all, meets_none_of_one, placed_at, small_now}
use Rattle.edit_record.proofs.swaps.moving_edits.MovingEdits.meets.Goals as goal
use Rattle.edit_record.proofs.swaps.moving_edits.MovingEdits.meets.Goals.{in-Some, in-None}

pub partition_before-count-requires : goal.partition_before-count-requires
partition_before-count-requires c = subst (λ (l : List EndOffset). AllByRecursion IsSmall (ends_of l)) (sym c.deref.ensures.value) (small_now c.args.self.now c.requires)

pub index-requires : goal.index-requires
index-requires c =
    let m = c.args.self.now in
    let f = next_here m c.edit-item.result c.requires c.at-at.result c.partition_before-count.result.count c.partition_before-count.result.last c.partition_before-count.result.next c.deref.result.now c.at-at.ensures c.deref.ensures.value c.partition_before-count.ensures c.in-Some.end c.in-Some.is in
    let there = (itself m c.edit-item.result.at c.partition_before-count.result.count c.in-Some.end c.requires f).in_range in
    omega (arith, there)

pub overflow_sub-touches : goal.overflow_sub-touches
overflow_sub-touches c =
    let m = c.args.self.now in
    let f = next_here m c.edit-item.result c.requires c.at-at.result c.partition_before-count.result.count c.partition_before-count.result.last c.partition_before-count.result.next c.deref.result.now c.at-at.ensures c.deref.ensures.value c.partition_before-count.ensures c.in-Some.end c.in-Some.is in
    let adds = itself_adds m c.edit-item.result.at c.partition_before-count.result.count c.in-Some.end c.requires f c.index.result.now c.added.result.now c.added.ensures c.index.ensures in
    let p = f.span_end_is in
    let l = f.len_is in
    omega (arith, adds, p, l)

pub overflow_add-touches : goal.overflow_add-touches
overflow_add-touches c =
    let b = c.args.second.now in
    let items = c.edits-edit-items.result.now in
    let made = c.edits-edit-items.ensures.disjoint in
    let w = placed_at b.old_len 0 items c.loop-edit.edit-index c.edit-item.result made.disjoint c.loop-edit-test.true c.edit-item.is in
    let fits = made.old_fits in
    let r = ap length c.removed.ensures in
    let a = c.at-at.ensures in
    omega (arith, w, fits, r, a)

pub returns-then-touches-clause-met : goal.returns-then-touches-clause-met
returns-then-touches-clause-met c =
    let m = c.args.self.now in
    let b = c.args.second.now in
    let y = c.edit-item.result in
    let j = c.loop-edit.edit-index in
    let count = c.partition_before-count.result.count in
    let n = numbered b c.edits-edit-items.result.now j y c.edits-edit-items.ensures.same c.loop-edit-test.true c.edit-item.is in
    elim c.match-next.branch [
      | in-Some w ↦
          let f = next_here m y c.requires c.at-at.result count c.partition_before-count.result.last c.partition_before-count.result.next c.deref.result.now c.at-at.ensures c.deref.ensures.value c.partition_before-count.ensures w.in-Some.end w.in-Some.is in
          let adds = itself_adds m y.at count w.in-Some.end c.requires f w.index.result.now w.added.result.now w.added.ensures w.index.ensures in
          let removes = ap length w.removed.ensures in
          let at_is = c.at-at.ensures in
          let le = leb-true _ _ (sym w.touches-is ∙ c.if-touches.true) in
          λ t. (count, j, first_met (edits_now m) b j y n.0 n.1 c.loop-edit.invariant count w.in-Some.end f (omega (arith, le, adds, removes, at_is)))
      | in-None w ↦ absurd (false≢true (sym w.touches-is ∙ c.if-touches.true))
    ]

pub loop-edit-preserved : goal.loop-edit-preserved
loop-edit-preserved c =
    let m = c.args.self.now in
    let b = c.args.second.now in
    let y = c.edit-item.result in
    let j = c.loop-edit.edit-index in
    let count = c.partition_before-count.result.count in
    let n = numbered b c.edits-edit-items.result.now j y c.edits-edit-items.ensures.same c.loop-edit-test.true c.edit-item.is in
    elim c.match-next.branch [
      | in-Some w ↦
          let f = next_here m y c.requires c.at-at.result count c.partition_before-count.result.last c.partition_before-count.result.next c.deref.result.now c.at-at.ensures c.deref.ensures.value c.partition_before-count.ensures w.in-Some.end w.in-Some.is in
          let adds = itself_adds m y.at count w.in-Some.end c.requires f w.index.result.now w.added.result.now w.added.ensures w.index.ensures in
          let removes = ap length w.removed.ensures in
          let at_is = c.at-at.ensures in
          let lt = leb-false _ _ (sym w.touches-is ∙ c.if-touches.false) in
          meets_none_of_one (edits_now m) b j y n.0 n.1 c.loop-edit.invariant count w.in-Some.end f (omega (arith, lt, adds, removes, at_is))
      | in-None w ↦
          meets_none_of_all (edits_now m) b j y n.0 n.1 c.loop-edit.invariant count
          (nothing_here m y c.requires c.at-at.result count c.partition_before-count.result.last c.partition_before-count.result.next c.deref.result.now c.at-at.ensures c.deref.ensures.value c.partition_before-count.ensures w.in-None.is)
    ]

pub returns-clause-apart : goal.returns-clause-apart
returns-clause-apart c =
    let l = ap length c.edits-edit-items.ensures.same in
    λ f. all_apart (edits_now c.args.self.now) c.args.second.now c.loop-edit.edit-index (omega (arith, l, c.loop-edit-test.false)) c.loop-edit.invariant
