-- One more entry is reported.
use Rattle.std.proofs.Common.{◌∙◌, ◌+◌, ap, arith, drop, length, refl, sym, take}
use Rattle.tf_program.proofs.Holding.{keeps_none, keeps_more}
use Rattle.tf_program.proofs.Keeping.{taken_entry, left_entry}
use Rattle.tf_program.proofs.Reporting.{does_as, entry_as, reports_none, reports_next}
use Rattle.tf_program.proofs.batch.Batch.report_all.Goals as goal

pub report-requires : goal.report-requires
report-requires g c = omega (arith, c.loop-entry.invariant.same.left, c.requires.within, c.loop-entry-test.true)

pub loop-entry-init : goal.loop-entry-init
loop-entry-init g c = record {
  same = keeps_none c.args.self.now;
  rest = c.into_iter-rest.ensures.len ∙ c.args.results.ok.0 ∙ sym (ap length c.into_iter-rest.ensures.rest);
  does = λ spot old new waiting saves. reports_none spot _ _ c.args.entries.now c.args.results.items _ _ _ old new refl c.into_iter-rest.ensures.rest waiting saves;
}

pub loop-entry-preserved : goal.loop-entry-preserved
loop-entry-preserved g c =
    let done = c.loop-entry.invariant in
    let i = c.loop-entry.entry-index in
    let entry = c.entry-item.result in
    let more = taken_entry c.args.entries.now i entry c.loop-entry-test.true c.entry-item.is in
    let left = left_entry c.args.entries.now i entry c.loop-entry-test.true c.entry-item.is in
    record {
      same = keeps_more i c.args.self.now c.loop-entry.self c.report.new.self done.same c.report.ensures.same;
      rest = c.next_result-saved.ensures.len;
      does = λ spot old new waiting saves.
          reports_next spot _ _ (take i c.args.entries.now) (drop i c.args.entries.now) _ entry (drop (i + 1) c.args.entries.now) _ _ _ _ _ _ new more left c.next_result-saved.ensures.taken
          (λ at before after is was. does_as i c.args.self.now c.loop-entry.self entry.name.now _ _ done.same (c.report.ensures.does at before after (entry_as at i c.args.self.now c.loop-entry.self before entry done.same is) was))
          (done.does spot old new waiting saves);
    }
