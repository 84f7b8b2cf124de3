use Rattle.edit_record.proofs.ListsLemmas.JournalResults.{forward_answers, backward_answers}
use Rattle.edit_record.proofs.lists.laws.journal_results_are_exact.Goals as goal

pub returns-clause-forward : goal.returns-clause-forward
returns-clause-forward c = forward_answers

pub returns-clause-backward : goal.returns-clause-backward
returns-clause-backward c = backward_answers
