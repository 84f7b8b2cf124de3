-- The entry is done after all that was held.
use Rattle.tf_program.proofs.Holding.{entry_then, finished_one}
use Rattle.tf_program.proofs.batch.Batch.finish_with.Goals as goal

pub finish_entry-requires-clause-made : goal.finish_entry-requires-clause-made
finish_entry-requires-clause-made g c = entry_then _ c.args.next.now _ _ _ _ c.finish.ensures.step c.requires.apart c.requires.made

pub returns : goal.returns
returns g c = finished_one _ _ _ _ _ _ _ _ c.finish.ensures.step c.finish.ensures.none c.finish_entry.ensures.same c.finish_entry.ensures.does
