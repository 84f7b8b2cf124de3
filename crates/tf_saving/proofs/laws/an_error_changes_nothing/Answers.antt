use Rattle.tf_saving.proofs.AllRuns.{errors_change_nothing, late_recovers_to_new, failure_is_not_in_place}
use Rattle.tf_saving.proofs.laws.an_error_changes_nothing.Goals as goal

pub returns-clause-error : goal.returns-clause-error
returns-clause-error c = errors_change_nothing

pub returns-clause-late : goal.returns-clause-late
returns-clause-late c = late_recovers_to_new

pub returns-clause-not_in_place : goal.returns-clause-not_in_place
returns-clause-not_in_place c = failure_is_not_in_place
