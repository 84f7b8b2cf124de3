use Rattle.std.proofs.Common.{length}
use Rattle.tf_lint.proofs.steps.+find_first_change.Given as goal

abbrev pub decreases-find_first_change : goal.decreases-find_first_change
decreases-find_first_change l = length l.order.now
