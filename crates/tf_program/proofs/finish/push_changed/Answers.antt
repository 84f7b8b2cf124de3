-- The file is the last, if there is one.
use Rattle.tf_program.proofs.Keeping.{no_file}
use Rattle.tf_program.proofs.finish.push_changed.Goals as goal

pub returns-in-None : goal.returns-in-None
returns-in-None g c = no_file _ _ c.in-None.ensures
