-- The entry is the last that is held, and all are finished if they are many or there is no memory.
use Rattle.std.proofs.Common.{refl}
use Rattle.tf_program.specs.declared.batch.Batch.{Batch}
use Rattle.tf_program.proofs.Holding.{pushed, waiting_one_more}
use Rattle.tf_program.proofs.batch.Batch.hold.Goals as goal

pub finish_full-requires-clause-waiting : goal.finish_full-requires-clause-waiting
finish_full-requires-clause-waiting g c =
    rw c.in-Ok.ensures.items (waiting_one_more _ _ _ _ c.args.self.now.entries.items c.args.next c.requires.waiting c.requires.made c.requires.apart)

pub returns-in-Ok : goal.returns-in-Ok
returns-in-Ok g c =
    let waiting : Batch g.row.P.Denot = record c.args.self.now { entries = c.push.new.self; bytes = c.saturating_add-self.result } in
    pushed g.S.Store.spot c.args.next c.args.self.now waiting c.finish_full.new.self _ _ c.in-Ok.ensures.items c.in-Ok.ensures.len refl refl refl c.finish_full.ensures
