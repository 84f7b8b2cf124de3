use Rattle.edit_record.proofs.LawsOfText.{one_journal}
use Rattle.edit_record.proofs.laws.text_is_unambiguous.Goals as goal

pub returns : goal.returns
returns c = one_journal
