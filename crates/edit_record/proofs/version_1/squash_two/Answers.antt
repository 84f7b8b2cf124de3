use Rattle.edit_record.proofs.Steps.{stop_is, stop_error}
use Rattle.edit_record.proofs.version_1.squash_two.Goals as goal

pub returns-in-Err-clause-squash : goal.returns-in-Err-clause-squash
returns-in-Err-clause-squash c =
    stop_is c.args.first.now c.args.second.now c.args.left c.in-Err.unmet c.stop_of.result c.stop_of.ensures c.in-Err.ensures

pub returns-in-Err-clause-error : goal.returns-in-Err-clause-error
returns-in-Err-clause-error c = stop_error c.args.left c.in-Err.unmet c.stop_of.result c.stop_of.ensures
