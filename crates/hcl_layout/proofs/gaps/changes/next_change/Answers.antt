use Rattle.hcl_layout.proofs.gaps.changes.next_change.Goals as goal

pub returns-then-change-near-clause-changes : goal.returns-then-change-near-clause-changes
returns-then-change-near-clause-changes c = λ less. c.first_change-change.ensures.changes c.if-change-near.true
