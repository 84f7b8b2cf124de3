use Rattle.std.proofs.Common.{inr}
use Rattle.std.proofs.lemmas.Result.{err_from_is_err_and}
use Rattle.edit_record.proofs.Allocating.{step_allocated, step_taken}
use Rattle.edit_record.proofs.Steps.{one_step, no_step, no_squash, all_steps, one_step_error, step_error, squash_error}
use Rattle.edit_record.proofs.version_1.squash_steps.Goals as goal

pub returns-in_err-next-clause-parses : goal.returns-in_err-next-clause-parses
returns-in_err-next-clause-parses c =
    let p = err_from_is_err_and c.from_residual.result c.from_residual.ensures.1 in
    rw (p.1, p.2) (no_step c.loop.edits c.args.first c.args.count c.loop.counter c.args.count c.loop.rest.now c.args.text.now c.loop-test.true c.loop.invariant.equivalent _ _ c.in_err-next.field-0.0
    (λ taken. step_allocated c.loop.counter c.args.count c.loop.rest.now c.args.text.now c.loop-test.true c.loop.invariant.begun taken) c.in_err-next.ensures)

pub returns-in_err-edits-clause-parses : goal.returns-in_err-edits-clause-parses
returns-in_err-edits-clause-parses c =
    let p = err_from_is_err_and c.from_residual-in_err-edits.result c.from_residual-in_err-edits.ensures.1 in
    rw (p.1, p.2) (no_squash c.loop.edits c.args.first c.args.count c.loop.counter c.args.count c.loop.rest.now c.args.text.now c.loop-test.true c.loop.invariant.equivalent _ c.in_ok-next.next c.in_ok-next.after.now c.in_err-edits.field-0.0
    (step_taken c.loop.counter c.args.count c.loop.rest.now c.args.text.now _ c.loop-test.true c.loop.invariant.begun c.in_ok-next.ensures) c.in_ok-next.ensures c.in_err-edits.ensures.squash)

pub loop-preserved : goal.loop-preserved
loop-preserved c = record {
  equivalent = one_step c.loop.edits c.in_ok-next.next c.in_ok-edits.edits c.args.first c.args.count c.loop.counter c.args.count c.loop.rest.now c.in_ok-next.after.now c.args.text.now c.loop-test.true c.in_ok-next.ensures c.in_ok-edits.ensures.squash c.loop.invariant.equivalent;
  begun = inr (step_taken c.loop.counter c.args.count c.loop.rest.now c.args.text.now _ c.loop-test.true c.loop.invariant.begun c.in_ok-next.ensures);
  errors = one_step_error c.loop.edits c.in_ok-next.next c.in_ok-edits.edits c.args.first c.args.count c.loop.counter c.args.count c.loop.rest.now c.in_ok-next.after.now c.args.text.now c.loop-test.true c.in_ok-next.ensures c.in_ok-edits.ensures.squash c.loop.invariant.errors;
}

pub returns-clause-parses : goal.returns-clause-parses
returns-clause-parses c = all_steps c.loop.edits c.args.first c.args.count c.loop.counter c.args.count c.loop.rest.now c.args.text.now c.loop-test.false c.loop.invariant.equivalent

pub returns-in_err-next-clause-error : goal.returns-in_err-next-clause-error
returns-in_err-next-clause-error c =
    let p = err_from_is_err_and c.from_residual.result c.from_residual.ensures.1 in
    rw (p.1, p.2) (step_error c.loop.edits c.args.first c.args.count c.loop.counter c.args.count c.loop.rest.now c.args.text.now c.loop-test.true c.loop.invariant.errors _ c.in_err-next.field-0.0 c.in_err-next.ensures)

pub returns-in_err-edits-clause-error : goal.returns-in_err-edits-clause-error
returns-in_err-edits-clause-error c =
    let p = err_from_is_err_and c.from_residual-in_err-edits.result c.from_residual-in_err-edits.ensures.1 in
    rw (p.1, p.2) (squash_error c.loop.edits c.args.first c.args.count c.loop.counter c.args.count c.loop.rest.now c.args.text.now c.loop-test.true c.loop.invariant.errors c.in_ok-next.next c.in_ok-next.after.now c.in_err-edits.field-0.0 c.in_ok-next.ensures c.in_err-edits.ensures.squash c.in_err-edits.ensures.error)
