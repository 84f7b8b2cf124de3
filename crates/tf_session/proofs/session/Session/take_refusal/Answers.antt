-- Memory runs out only if a take may allocate.
use Rattle.tf_session.specs.Session.{contents_of}
use Rattle.tf_session.proofs.RemoveRecord.{may_allocate}
use Rattle.tf_session.proofs.session.Session.take_refusal.Goals as goal
use Rattle.tf_session.proofs.session.Session.take_refusal.Goals.{in-Ok, in-Err-Memory, in-Err}

pub returns-clause-memory : goal.returns-clause-memory
returns-clause-memory c =
    elim c.match-without_record.branch [
      | in-Ok w ↦ rw w.result-is tt
      | in-Err-Memory w ↦
          let refused = rw (w.in-Err-Memory.is, w.in-Err-Memory.field-0-is) at c.without_record.ensures.refused in
          rw w.result-is (may_allocate c.args.number (contents_of c.args.self.now) (rw (c.deref.ensures.value, c.records.ensures) at refused))
      | in-Err w ↦ rw w.result-is tt
    ]
