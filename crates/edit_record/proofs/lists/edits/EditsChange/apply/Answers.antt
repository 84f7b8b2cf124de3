use Rattle.std.proofs.Common.{List, ap, subst, ◌∙◌}
use Rattle.edit_record.specs.declared.lists.direction.Direction.TheVariants.{Forward}
use Rattle.edit_record.specs.Lists.Pieces.{EditEntry, EditList, as_list}
use Rattle.edit_record.specs.Lists.ChangeResults.{IsChangeCallResult}
use Rattle.edit_record.proofs.ListsLemmas.JournalResults.{called}
use Rattle.edit_record.proofs.lists.edits.EditsChange.apply.Goals as goal

pub returns-clause-pieces : goal.returns-clause-pieces
returns-clause-pieces c =
    let here = as_list c.self.inside.old_len c.deref.result.now in
    let is = ap (λ (es : List EditEntry). as_list c.self.inside.old_len es) c.deref.ensures.value ∙ c.self.view_is in
    subst (λ (e : EditList). IsChangeCallResult Forward e c.args.text.now c.apply_edits.result) is (called Forward here c.args.text.now c.apply_edits.result c.apply_edits.ensures.agrees c.apply_edits.ensures.memory)
