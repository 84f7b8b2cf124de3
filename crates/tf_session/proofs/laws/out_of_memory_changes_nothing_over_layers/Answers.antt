use Rattle.tf_session.proofs.LayersLaws.{refused_do_not_count_over_layers}
use Rattle.tf_session.proofs.laws.out_of_memory_changes_nothing_over_layers.Goals as goal

pub returns : goal.returns
returns c = refused_do_not_count_over_layers
