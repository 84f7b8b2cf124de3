-- What the merge of two lists returns.
use Rattle.std.specs.Prelude.{Result, Ok, Err, ⊤}
use Rattle.std.specs.Global.{Vec}
use Rattle.edit_record.specs.Lists.Pieces.{EditEntry, EditList, as_list}
use Rattle.edit_record.specs.Lists.Validity.{AreValidEdits, new_len}
use Rattle.edit_record.specs.Squashes.Squash.{IsSquash, IsContradiction}
use Rattle.edit_record.specs.declared.squashes.squash_lists.Unmet.{Unmet}
use Rattle.edit_record.specs.declared.squashes.squash_lists.Unmet.TheVariants.{LengthsDiffer, Contradicts}
use Rattle.edit_record.specs.declared.squashes.squash_lists.Unmet.TheVariants.{Memory}

-- if the lengths match it returns what `squash` does, and the edits are valid
abbrev pub IsMergeResult : EditList → EditList → Result (Vec EditEntry) Unmet → Type 0
IsMergeResult a b (Ok c) =
    AreValidEdits a.old_len (new_len b) c.items
    × IsSquash a b (as_list a.old_len c.items)
IsMergeResult a b (Err LengthsDiffer) = ⊥
IsMergeResult a b (Err (Contradicts edit)) = IsContradiction a b edit
IsMergeResult a b (Err Memory) = ⊤
