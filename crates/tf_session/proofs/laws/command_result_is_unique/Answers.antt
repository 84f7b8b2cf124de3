-- By the laws on tokens, errors, layouts and fixes.
use Rattle.tf_session.proofs.ResultIsUnique.{one_answer}
use Rattle.tf_session.proofs.laws.command_result_is_unique.Goals as goal

pub returns : goal.returns
returns c = one_answer c.one_tokenization.ensures c.no_tokenization_with_fault.ensures c.one_fault.ensures c.one_layout.ensures c.fix_is_unique.ensures
