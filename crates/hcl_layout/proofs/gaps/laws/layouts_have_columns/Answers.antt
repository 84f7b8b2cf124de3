use Rattle.hcl_layout.proofs.GapsLemmas.BothColumns.{comments_end, assignment_columns, comment_columns}
use Rattle.hcl_layout.proofs.gaps.laws.layouts_have_columns.Goals as goal

pub returns-clause-ends : goal.returns-clause-ends
returns-clause-ends c = λ text pairs last tokenized. comments_end pairs last (c.tokenization_follows_modes.ensures text pairs last tokenized)

pub returns-clause-assignments : goal.returns-clause-assignments
returns-clause-assignments c = assignment_columns

pub returns-clause-comments : goal.returns-clause-comments
returns-clause-comments c = comment_columns
