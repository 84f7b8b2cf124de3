use Rattle.edit_record.proofs.ListsLemmas.PieceLemmas.{pieces_all_transform as lemma}
use Rattle.edit_record.proofs.lists.laws.pieces_transform.Goals as goal

pub returns : goal.returns
returns c = lemma
