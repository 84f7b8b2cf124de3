use Rattle.std.proofs.Common.{List, subst, ◌∙◌}
use Rattle.edit_record.specs.declared.lists.direction.Direction.TheVariants.{Backward}
use Rattle.edit_record.specs.Lists.Journal.{JournalEntry}
use Rattle.edit_record.specs.Lists.JournalResults.{IsJournalCallResult}
use Rattle.edit_record.proofs.ListsLemmas.JournalResults.{undone_so}
use Rattle.edit_record.proofs.lists.journal.JournalChange.undo.Goals as goal

pub returns-clause-pieces : goal.returns-clause-pieces
returns-clause-pieces c =
    let is = c.deref.ensures.value ∙ c.self.view_is in
    subst (λ (rs : List JournalEntry). IsJournalCallResult Backward rs c.args.text.now c.undo_records.result) is (undone_so c.deref.result.now c.args.text.now c.undo_records.result c.undo_records.ensures.agrees c.undo_records.ensures.memory)
