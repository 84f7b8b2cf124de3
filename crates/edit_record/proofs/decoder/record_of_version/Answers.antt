use Rattle.std.proofs.Common.{◌≡◌, Ok, true, false}
use Rattle.edit_record.specs.Parsing.{record_at}
use Rattle.edit_record.specs.Inner.ParseResults.{OldRecordAt, RecordAt}
use Rattle.edit_record.proofs.Journals.{finds_alike, finds_read, new_alike, old_alike, new_error, old_error}
use Rattle.edit_record.proofs.decoder.record_of_version.Goals as goal

pub returns-then-old-clause-parses : goal.returns-then-old-clause-parses
returns-then-old-clause-parses c =
    rw c.if-old.true (finds_alike _ _ (OldRecordAt c.args.text.now) (RecordAt true c.args.text.now) (old_alike c.args.text.now) _ c.old_record.result c.old_record.ensures.parses)

pub returns-else-old-clause-parses : goal.returns-else-old-clause-parses
returns-else-old-clause-parses c =
    rw c.if-old.false (finds_alike _ _ (λ r rest. record_at c.args.text.now ≡ Ok (r, rest)) (RecordAt false c.args.text.now) (new_alike c.args.text.now) _ c.record.result (finds_read _ _ (record_at c.args.text.now) _ c.record.result c.record.ensures))

pub returns-then-old-clause-error : goal.returns-then-old-clause-error
returns-then-old-clause-error c =
    rw c.if-old.true (old_error c.args.text.now c.old_record.result c.old_record.ensures.error)

pub returns-else-old-clause-error : goal.returns-else-old-clause-error
returns-else-old-clause-error c =
    rw c.if-old.false (new_error _ _ c.args.text.now c.record.result c.record.ensures)
