use Rattle.std.proofs.lemmas.Result.{err_from_is_err_and}
use Rattle.edit_record.specs.Inner.OldHead.{head_view}
use Rattle.edit_record.proofs.Steps.{no_head, no_others, no_end, old_is, head_error, steps_error, end_error}
use Rattle.edit_record.proofs.version_1.old_record.Goals as goal

pub returns-in_err-head-clause-parses : goal.returns-in_err-head-clause-parses
returns-in_err-head-clause-parses c =
    let p = err_from_is_err_and c.from_residual.result c.from_residual.ensures.1 in
    rw (p.1, p.2) (no_head c.args.text.now c.in_err-head.field-0.0 c.in_err-head.ensures)

pub returns-in_err-head-clause-error : goal.returns-in_err-head-clause-error
returns-in_err-head-clause-error c =
    let p = err_from_is_err_and c.from_residual.result c.from_residual.ensures.1 in
    rw (p.1, p.2) (head_error c.args.text.now _ c.in_err-head.field-0.0 c.in_err-head.ensures)

pub returns-in_err-edits-clause-parses : goal.returns-in_err-edits-clause-parses
returns-in_err-edits-clause-parses c =
    let p = err_from_is_err_and c.from_residual-in_err-edits.result c.from_residual-in_err-edits.ensures.1 in
    rw (p.1, p.2) (no_others c.args.text.now c.in_ok-head.rest.now (head_view c.in_ok-head.head) c.in_err-edits.field-0.0 c.in_ok-head.ensures c.in_err-edits.ensures.parses)

pub returns-in_err-edits-clause-error : goal.returns-in_err-edits-clause-error
returns-in_err-edits-clause-error c =
    let p = err_from_is_err_and c.from_residual-in_err-edits.result c.from_residual-in_err-edits.ensures.1 in
    rw (p.1, p.2) (steps_error c.args.text.now c.in_ok-head.rest.now (head_view c.in_ok-head.head) c.in_err-edits.field-0.0 c.in_ok-head.ensures c.in_err-edits.ensures.error)

pub returns-in_err-rest-clause-parses : goal.returns-in_err-rest-clause-parses
returns-in_err-rest-clause-parses c =
    let p = err_from_is_err_and c.from_residual-in_err-rest.result c.from_residual-in_err-rest.ensures.1 in
    rw (p.1, p.2) (no_end c.args.text.now c.in_ok-head.rest.now c.in_ok-edits.rest.now (head_view c.in_ok-head.head) c.in_ok-edits.edits c.in_err-rest.field-0.0 c.in_ok-head.ensures c.in_ok-edits.ensures.parses c.in_err-rest.ensures)

pub returns-in_err-rest-clause-error : goal.returns-in_err-rest-clause-error
returns-in_err-rest-clause-error c =
    let p = err_from_is_err_and c.from_residual-in_err-rest.result c.from_residual-in_err-rest.ensures.1 in
    rw (p.1, p.2) (end_error c.args.text.now c.in_ok-head.rest.now c.in_ok-edits.rest.now (head_view c.in_ok-head.head) c.in_ok-edits.edits c.in_err-rest.field-0.0 c.in_ok-head.ensures c.in_ok-edits.ensures.parses c.in_err-rest.ensures)

pub returns-clause-parses : goal.returns-clause-parses
returns-clause-parses c =
    rw c.make.ensures (old_is c.args.text.now c.in_ok-head.rest.now c.in_ok-edits.rest.now c.in_ok-rest.rest.now (head_view c.in_ok-head.head) c.in_ok-edits.edits c.in_ok-head.ensures c.in_ok-edits.ensures.parses c.in_ok-rest.ensures)
