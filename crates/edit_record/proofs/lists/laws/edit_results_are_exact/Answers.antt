use Rattle.edit_record.specs.declared.lists.direction.Direction.TheVariants.{Forward, Backward}
use Rattle.edit_record.proofs.ListsLemmas.FirstMismatch.{answers}
use Rattle.edit_record.proofs.lists.laws.edit_results_are_exact.Goals as goal

pub returns-clause-forward : goal.returns-clause-forward
returns-clause-forward c = answers Forward c.args.edits.now

pub returns-clause-backward : goal.returns-clause-backward
returns-clause-backward c = answers Backward c.args.edits.now
