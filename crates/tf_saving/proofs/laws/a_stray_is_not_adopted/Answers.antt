use Rattle.tf_saving.proofs.Strays.{stray_is_not_adopted, unadoptable_is_not_adopted}
use Rattle.tf_saving.proofs.laws.a_stray_is_not_adopted.Goals as goal

pub returns-clause-stray : goal.returns-clause-stray
returns-clause-stray c = stray_is_not_adopted

pub returns-clause-unadoptable : goal.returns-clause-unadoptable
returns-clause-unadoptable c = unadoptable_is_not_adopted
