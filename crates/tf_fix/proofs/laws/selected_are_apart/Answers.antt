use Rattle.tf_fix.proofs.ApartLemmas.{selection_is_apart}
use Rattle.tf_fix.proofs.laws.selected_are_apart.Goals as goal

pub returns : goal.returns
returns c = selection_is_apart
