use Rattle.std.proofs.Common.{length}
use Rattle.edit_record.specs.Lists.Pieces.{changed_entries}
use Rattle.tf_fix.specs.Edits.Replacements.{replaced_pieces}
use Rattle.tf_fix.specs.Edits.Parts.{parts, boundary_index}
use Rattle.tf_fix.specs.Inner.Views.{prev_view, replacements}
use Rattle.tf_fix.proofs.ComparisonLemmas.{IsCompared}
use Rattle.tf_fix.proofs.splice.replacement_edits.Given as goal

-- the edits up to here, with those of the replacements that are left, are all
abbrev pub invariant-loop-left : goal.invariant-loop-left
invariant-loop-left l =
    IsCompared l.scanned.pairs l.scanned.last (changed_entries 0 (replaced_pieces (parts l.scanned) (replacements l.scanned.pairs l.all))) l.edits.items (prev_view l.prev) (boundary_index l.at) l.left

abbrev pub decreases-loop-left : goal.decreases-loop-left
decreases-loop-left l = length l.left
