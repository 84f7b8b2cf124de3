use Rattle.edit_record.proofs.LawsOfText.{transform_alike}
use Rattle.edit_record.proofs.laws.migration_preserves_meaning.Goals as goal

pub returns : goal.returns
returns c = transform_alike
