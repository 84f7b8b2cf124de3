-- each call leaves fewer
use Rattle.tf_saving.specs.Steps.{calls_left}
use Rattle.tf_files.proofs.saves.Save.make_calls.Given as goal

abbrev pub decreases-loop-call : goal.decreases-loop-call
decreases-loop-call g l = calls_left l.step
