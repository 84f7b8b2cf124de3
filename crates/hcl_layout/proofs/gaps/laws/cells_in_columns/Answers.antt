use Rattle.hcl_layout.specs.declared.gaps.cells.Cell.TheVariants.{Assignment, ClosingComment}
use Rattle.hcl_layout.proofs.GapsLemmas.ColumnLaw.{cells_aligned}
use Rattle.hcl_layout.proofs.gaps.laws.cells_in_columns.Goals as goal

pub returns-clause-assignments : goal.returns-clause-assignments
returns-clause-assignments c = cells_aligned Assignment

pub returns-clause-comments : goal.returns-clause-comments
returns-clause-comments c = cells_aligned ClosingComment
