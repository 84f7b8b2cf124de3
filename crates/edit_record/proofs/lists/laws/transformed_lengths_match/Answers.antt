use Rattle.edit_record.proofs.ListsLemmas.ListLemmas.{have_lengths as lemma}
use Rattle.edit_record.proofs.lists.laws.transformed_lengths_match.Goals as goal

pub returns : goal.returns
returns c = lemma
