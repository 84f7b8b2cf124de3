use Rattle.edit_record.proofs.LawsOfText.{begins_alike}
use Rattle.edit_record.proofs.laws.text_prefix_is_unambiguous.Goals as goal

pub returns : goal.returns
returns c = begins_alike
