use Rattle.edit_record.proofs.short_edits.short_edit.Goals as goal

pub returns : goal.returns
returns c = rw c.from_adjacent.ensures (c.in-Some.ensures.read c.args.at)
