-- What was held stays or is finished, and then the entry is held or finished.
use Rattle.tf_program.proofs.Holding.{entry_then, puts_in_after}
use Rattle.tf_program.proofs.batch.Batch.add.Goals as goal

pub hold-requires-clause-made : goal.hold-requires-clause-made
hold-requires-clause-made g c = entry_then _ c.args.next _ _ _ _ c.make_space.ensures c.requires.apart c.requires.made

pub finish_with-requires-clause-made : goal.finish_with-requires-clause-made
finish_with-requires-clause-made g c = entry_then _ c.args.next _ _ _ _ c.make_space.ensures c.requires.apart c.requires.made

pub returns-then-lets_wait : goal.returns-then-lets_wait
returns-then-lets_wait g c = puts_in_after _ _ _ _ _ _ _ _ c.make_space.ensures c.hold.ensures

pub returns : goal.returns
returns g c = puts_in_after _ _ _ _ _ _ _ _ c.make_space.ensures c.finish_with.ensures
