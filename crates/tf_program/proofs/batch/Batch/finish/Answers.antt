-- All that was held is saved and reported.
use Rattle.std.proofs.Common.{◌≡◌, ◌∙◌, List, ap, length, subst, sym, vec_len}
use Rattle.tf_files.specs.Stores.{SavesEach}
use Rattle.tf_program.specs.Inner.Entries.{files_of}
use Rattle.tf_program.specs.declared.entry.Entry.{Entry}
use Rattle.tf_program.proofs.Holding.{all_done, all_done_there, waiting_there}
use Rattle.tf_program.proofs.Keeping.{saves_keep}
use Rattle.tf_program.proofs.batch.Batch.finish.Goals as goal

pub returns-in-Some-clause-step : goal.returns-in-Some-clause-step
returns-in-Some-clause-step g c =
    let batch = c.args.self.now in
    let empty = c.take_entries-entries.new.self in
    let was = c.take_entries-entries.ensures in
    let entries = c.deref-in-Some.result.now in
    let old = g.S.Store.known c.args.store.now in
    let new = g.S.Store.known c.save_entries.new.store in
    let same : entries ≡ batch.entries.items = c.deref-in-Some.ensures.value ∙ was.taken in
    let many : length entries ≡ vec_len batch.entries = ap length same ∙ sym batch.entries.ok.0 in
    let saves = subst (λ (es : List (Entry g.row.P.Denot)). SavesEach g.S.Store.spot (files_of es) c.in-Some.results.items old new) (c.deref.ensures.value ∙ sym c.deref-in-Some.ensures.value) c.in-Some.ensures.saved in
    let waiting = waiting_there g.S.Store.spot batch empty entries old was.action was.locate same c.requires.waiting in
    all_done g.S.Store.spot batch empty c.report_all.new.self entries _ _ old new was.none was.left was.outcome was.action was.locate same many c.report_all.ensures.same
    (c.report_all.ensures.does g.S.Store.spot old new waiting saves) (λ name apart. saves_keep g.S.Store.spot entries c.in-Some.results.items old new name saves apart)

pub returns-clause-step : goal.returns-clause-step
returns-clause-step g c =
    let batch = c.args.self.now in
    let empty = c.take_entries-entries.new.self in
    let was = c.take_entries-entries.ensures in
    let entries = c.deref-in-None.result.now in
    let same : entries ≡ batch.entries.items = c.deref-in-None.ensures.value ∙ was.taken in
    let many : length entries ≡ vec_len batch.entries = ap length same ∙ sym batch.entries.ok.0 in
    all_done_there g.S.Store.spot batch empty c.finish_each.new.self entries _ _ (g.S.Store.known c.save_entries.new.store) (g.S.Store.known c.args.store.now) (g.S.Store.known c.finish_each.new.store) c.in-None.ensures.unsaved
    was.none was.left was.outcome was.action was.locate same many c.finish_each.ensures.same c.finish_each.ensures.does c.finish_each.ensures.kept
