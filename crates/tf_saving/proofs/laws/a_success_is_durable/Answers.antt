use Rattle.tf_saving.proofs.AllRuns.{success_is_durable, unfailing_save_succeeds}
use Rattle.tf_saving.proofs.laws.a_success_is_durable.Goals as goal

pub returns-clause-durable : goal.returns-clause-durable
returns-clause-durable c = success_is_durable

pub returns-clause-unfailing : goal.returns-clause-unfailing
returns-clause-unfailing c = unfailing_save_succeeds
