use Rattle.edit_record.proofs.ListsLemmas.ListLemmas.{make_is_exact as lemma}
use Rattle.edit_record.proofs.lists.laws.make_is_exact.Goals as goal

pub returns : goal.returns
returns c = lemma
