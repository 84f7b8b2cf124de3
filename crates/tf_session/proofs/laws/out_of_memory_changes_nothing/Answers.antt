use Rattle.tf_session.proofs.RunLaws.{refused_do_not_count}
use Rattle.tf_session.proofs.laws.out_of_memory_changes_nothing.Goals as goal

pub returns : goal.returns
returns c = refused_do_not_count
