use Rattle.edit_record.proofs.ListsLemmas.ResultIsUnique.{result_unique}
use Rattle.edit_record.proofs.lists.laws.change_result_is_unique.Goals as goal

pub returns : goal.returns
returns c = result_unique
