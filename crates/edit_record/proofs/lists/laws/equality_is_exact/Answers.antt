use Rattle.edit_record.specs.Lists.Inner.EqualityExact.{edits_exact, lists_exact, records_exact, journals_exact}
use Rattle.edit_record.proofs.lists.laws.equality_is_exact.Goals as goal

pub returns-clause-edits : goal.returns-clause-edits
returns-clause-edits c = edits_exact

pub returns-clause-lists : goal.returns-clause-lists
returns-clause-lists c = lists_exact

pub returns-clause-records : goal.returns-clause-records
returns-clause-records c = records_exact

pub returns-clause-journals : goal.returns-clause-journals
returns-clause-journals c = journals_exact
