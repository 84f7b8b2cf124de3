use Rattle.std.proofs.Common.{drop, arith}
use Rattle.std.proofs.lemmas.List.{drop_all}
use Rattle.edit_record.proofs.KnownText.{written_all, written_next}
use Rattle.edit_record.proofs.ListsLemmas.Placed.{drop_item}
use Rattle.edit_record.proofs.encoder.write_records.Goals as goal

pub loop-rec-preserved : goal.loop-rec-preserved
loop-rec-preserved c = λ all start.
    written_next all c.loop-rec.out.items c.write_record.new.out.items c.args.records.now c.loop-rec.rec-index c.rec-item.result (c.loop-rec.invariant all start) (drop_item c.args.records.now c.loop-rec.rec-index c.rec-item.result (omega (arith, c.loop-rec-test.true)) c.rec-item.is) (c.in_ok-write_record.ensures.text) (c.in_ok-write_record.ensures.made)

pub returns-clause-text : goal.returns-clause-text
returns-clause-text c = λ all start.
    let none = drop_all c.loop-rec.rec-index c.args.records.now (omega (arith, c.loop-rec-test.false)) in
    written_all all c.loop-rec.out.items (drop c.loop-rec.rec-index c.args.records.now) (c.loop-rec.invariant all start) none
