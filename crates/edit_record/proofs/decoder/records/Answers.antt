use Rattle.std.proofs.Common.{inr}
use Rattle.std.proofs.lemmas.Result.{err_from_is_err_and}
use Rattle.edit_record.proofs.Allocating.{record_taken}
use Rattle.edit_record.proofs.Journals.{record_shorter, begins_on, read_on, reads_stop, reads_all, some_left, none_left}
use Rattle.edit_record.proofs.decoder.records.Goals as goal

pub returns-in_err-record : goal.returns-in_err-record
returns-in_err-record c =
    let p = err_from_is_err_and c.from_residual.result c.from_residual.ensures.1 in
    rw (p.1, p.2) (reads_stop c.is_version_1-old.result c.args.text.now c.loop-rest.journal c.loop-rest.rest.now c.loop-rest.invariant.begins c.loop-rest.invariant.begun c.loop-rest.invariant.read c.is_version_1-old.ensures (some_left c.loop-rest.rest.now c.loop-rest-test.ensures) c.in_err-record.field-0.0 c.in_err-record.ensures.parses c.in_err-record.ensures.error)

pub loop-rest-preserved : goal.loop-rest-preserved
loop-rest-preserved c =
    rw c.in_ok-push.ensures.ok (record {
      begins = begins_on c.is_version_1-old.result c.args.text.now c.loop-rest.journal c.loop-rest.rest.now c.in_ok-record.after.now c.in_ok-record.record c.loop-rest.invariant.begins c.in_ok-record.ensures.parses;
      begun = inr (record_taken c.is_version_1-old.result c.args.text.now c.loop-rest.rest.now c.in_ok-record.after.now c.in_ok-record.record c.loop-rest.invariant.begun c.in_ok-record.ensures.parses);
      read = read_on c.is_version_1-old.result c.args.text.now c.loop-rest.journal c.loop-rest.rest.now c.in_ok-record.after.now c.in_ok-record.record c.loop-rest.invariant.read c.in_ok-record.ensures.parses;
    })

pub returns : goal.returns
returns c = reads_all c.is_version_1-old.result c.args.text.now c.loop-rest.journal c.loop-rest.rest.now c.loop-rest.invariant.begins (none_left c.loop-rest.rest.now c.loop-rest-test.ensures)

pub returns-in_err-push : goal.returns-in_err-push
returns-in_err-push c =
    let p = err_from_is_err_and c.from_residual-in_err-push.result c.from_residual-in_err-push.ensures.1 in
    rw (p.1, p.2) (record_taken c.is_version_1-old.result c.args.text.now c.loop-rest.rest.now c.in_ok-record.after.now c.in_ok-record.record c.loop-rest.invariant.begun c.in_ok-record.ensures.parses)

pub loop-rest-smaller : goal.loop-rest-smaller
loop-rest-smaller c = record_shorter c.is_version_1-old.result c.loop-rest.rest.now c.in_ok-record.record c.in_ok-record.after.now c.in_ok-record.ensures.parses
