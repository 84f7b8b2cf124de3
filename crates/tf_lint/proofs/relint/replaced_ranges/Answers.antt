use Rattle.tf_lint.proofs.EditLengths.{short_edit}
use Rattle.tf_lint.proofs.relint.replaced_ranges.Goals as goal

pub replaced_range-requires-clause-at : goal.replaced_range-requires-clause-at
replaced_range-requires-clause-at c = rw c.edit-item.is (short_edit _ _ _ c.loop-edit.edit-index _ c.edits-all.ensures.disjoint c.loop-edit-test.true).at

pub replaced_range-requires-clause-removed : goal.replaced_range-requires-clause-removed
replaced_range-requires-clause-removed c = rw c.edit-item.is (short_edit _ _ _ c.loop-edit.edit-index _ c.edits-all.ensures.disjoint c.loop-edit-test.true).removed

pub replaced_range-requires-clause-added : goal.replaced_range-requires-clause-added
replaced_range-requires-clause-added c = rw c.edit-item.is (short_edit _ _ _ c.loop-edit.edit-index _ c.edits-all.ensures.disjoint c.loop-edit-test.true).added
