-- One more entry is saved and reported.
use Rattle.std.proofs.Common.{◌+◌, arith, drop, take}
use Rattle.tf_program.proofs.Holding.{keeps_more}
use Rattle.tf_program.proofs.Keeping.{taken_entry, left_entry}
use Rattle.tf_program.proofs.Reporting.{does_as, entry_as, first_waiting, finishes_next}
use Rattle.tf_program.proofs.batch.Batch.finish_each.Goals as goal

pub finish_entry-requires-clause-next : goal.finish_entry-requires-clause-next
finish_entry-requires-clause-next g c = omega (arith, c.loop-entry.invariant.same.left, c.requires.within, c.loop-entry-test.true)

pub finish_entry-requires-clause-made : goal.finish_entry-requires-clause-made
finish_entry-requires-clause-made g c =
    let done = c.loop-entry.invariant in
    let i = c.loop-entry.entry-index in
    let entry = c.entry-item.result in
    let left = left_entry c.args.entries.now i entry c.loop-entry-test.true c.entry-item.is in
    entry_as g.S.Store.spot i c.args.self.now c.loop-entry.self _ entry done.same (first_waiting _ _ _ _ (drop i c.args.entries.now) (drop (i + 1) c.args.entries.now) entry left done.finishes.waiting)

pub loop-entry-preserved : goal.loop-entry-preserved
loop-entry-preserved g c =
    let done = c.loop-entry.invariant in
    let i = c.loop-entry.entry-index in
    let entry = c.entry-item.result in
    let more = taken_entry c.args.entries.now i entry c.loop-entry-test.true c.entry-item.is in
    let left = left_entry c.args.entries.now i entry c.loop-entry-test.true c.entry-item.is in
    record {
      same = keeps_more i c.args.self.now c.loop-entry.self c.finish_entry.new.self done.same c.finish_entry.ensures.same;
      finishes = finishes_next _ _ _ c.args.entries.now (take i c.args.entries.now) (drop i c.args.entries.now) _ entry (drop (i + 1) c.args.entries.now) i c.finish_entry.ensures.saved.0 _ _ _ more left
          c.loop-entry-test.true c.entry-item.is c.finish_entry.ensures.saved.1 (does_as i c.args.self.now c.loop-entry.self entry.name.now _ _ done.same c.finish_entry.ensures.does) done.finishes;
    }
