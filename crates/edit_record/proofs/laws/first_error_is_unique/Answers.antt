use Rattle.edit_record.proofs.FirstErrors.{first_error_unique}
use Rattle.edit_record.proofs.laws.first_error_is_unique.Goals as goal

pub returns : goal.returns
returns c = first_error_unique
