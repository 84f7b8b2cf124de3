-- The action was done on the text of the file, or on its records.
use Rattle.std.proofs.Common.{◌∙◌, sym}
use Rattle.tf_program.proofs.Answering.{listed}
use Rattle.tf_program.proofs.read_only.answer_file.Goals as goal

pub returns-then-is_list-clause-answer : goal.returns-then-is_list-clause-answer
returns-then-is_list-clause-answer g c = listed _ _ _ _ _ _ _ (sym c.is_list.ensures ∙ c.if-is_list.true) c.list_file.ensures.lists
