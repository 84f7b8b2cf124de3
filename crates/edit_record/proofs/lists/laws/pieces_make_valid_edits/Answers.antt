use Rattle.edit_record.proofs.ListsLemmas.PieceLemmas.{pieces_make as lemma}
use Rattle.edit_record.proofs.lists.laws.pieces_make_valid_edits.Goals as goal

pub returns : goal.returns
returns c = lemma
