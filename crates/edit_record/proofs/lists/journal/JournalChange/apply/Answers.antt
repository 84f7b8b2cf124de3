use Rattle.std.proofs.Common.{List, subst, ◌∙◌}
use Rattle.edit_record.specs.declared.lists.direction.Direction.TheVariants.{Forward}
use Rattle.edit_record.specs.Lists.Journal.{JournalEntry}
use Rattle.edit_record.specs.Lists.JournalResults.{IsJournalCallResult}
use Rattle.edit_record.proofs.ListsLemmas.JournalResults.{applied_so}
use Rattle.edit_record.proofs.lists.journal.JournalChange.apply.Goals as goal

pub returns-clause-pieces : goal.returns-clause-pieces
returns-clause-pieces c =
    let is = c.deref.ensures.value ∙ c.self.view_is in
    subst (λ (rs : List JournalEntry). IsJournalCallResult Forward rs c.args.text.now c.apply_records.result) is (applied_so c.deref.result.now c.args.text.now c.apply_records.result c.apply_records.ensures.agrees c.apply_records.ensures.memory)
