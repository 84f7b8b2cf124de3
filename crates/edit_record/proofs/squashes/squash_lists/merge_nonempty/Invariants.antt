use Rattle.std.proofs.Common.{◌+◌, length}
use Rattle.edit_record.specs.Squashes.Inner.MergeState.{state}
use Rattle.edit_record.proofs.SquashesLemmas.Merged.{Progress}
use Rattle.edit_record.proofs.squashes.squash_lists.merge_nonempty.Given as goal

abbrev pub invariant-edits : goal.invariant-edits
invariant-edits l = Progress l.first.old_len l.second.old_len l.first.entries l.second.entries (state l.merge) l.xs l.ys

abbrev pub decreases-edits : goal.decreases-edits
decreases-edits l = length l.xs + length l.ys
