use Rattle.tf_saving.proofs.OtherPrograms.{changed_text_is_kept, foreign_file_is_not_renamed, edit_is_kept}
use Rattle.tf_saving.proofs.laws.an_edit_is_kept.Goals as goal

pub returns-clause-changed : goal.returns-clause-changed
returns-clause-changed c = changed_text_is_kept

pub returns-clause-foreign : goal.returns-clause-foreign
returns-clause-foreign c = foreign_file_is_not_renamed

pub returns-clause-edit : goal.returns-clause-edit
returns-clause-edit c = edit_is_kept
