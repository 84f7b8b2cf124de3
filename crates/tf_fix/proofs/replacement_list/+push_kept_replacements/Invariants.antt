use Rattle.std.proofs.Common.{length}
use Rattle.tf_fix.proofs.replacement_list.+push_kept_replacements.Given as goal

abbrev pub decreases-push_kept_replacements : goal.decreases-push_kept_replacements
decreases-push_kept_replacements l = length l.kept.now
