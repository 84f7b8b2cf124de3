-- What `last` lent is what `pop` takes, and it turns just one text into this one, or none.
use Rattle.std.proofs.Common.{◌≡◌, ◌-◌, List, ℕ, length, take, slice_get, Some, Ok, Err, refl, rules, arith, subst, sym}
use Rattle.std.proofs.lemmas.Grind.{common_steps}
use Rattle.edit_record.specs.Lists.Journal.{JournalEntry, record_backward}
use Rattle.edit_record.specs.Lists.ChangeResults.{IsChangeCallResult}
use Rattle.edit_record.specs.declared.lists.change.Refused.{Refused}
use Rattle.edit_record.specs.declared.lists.change.Refused.TheVariants.{Length, Differs, Memory}
use Rattle.edit_record.specs.declared.lists.direction.Direction.TheVariants.{Backward}
use Rattle.tf_session.specs.declared.command.Fault.{Fault}
use Rattle.tf_session.specs.Inner.Faults.{fault_of_refused}
use Rattle.tf_session.specs.Records.{IsLast, IsUniqueOld, RefusesRevert}
use Rattle.tf_session.specs.Session.{contents_of, text_of, records_of, with_records}
use Rattle.tf_session.proofs.Lists.{ends_with_last, popped}
use Rattle.tf_session.proofs.session.Session.revert_last.Goals as goal

pub returns-in-Ok-clause-done : goal.returns-in-Ok-clause-done
returns-in-Ok-clause-done c =
    let at_end : slice_get (records_of c.args.self.now) (length (records_of c.args.self.now) - 1) ≡ Some c.in-Some.record.now = search rules in
    let back : record_backward c.in-Some.record.now (text_of c.args.self.now) ≡ Ok c.in-Ok.text.items = search rules in
    let only : IsUniqueOld c.in-Some.record.now c.in-Ok.text.items (text_of c.args.self.now) = (
      (c.undo_is_exact.ensures c.in-Ok.text.items (text_of c.args.self.now)).0 back,
      λ v turns. let other = (c.undo_is_exact.ensures v (text_of c.args.self.now)).1 turns in cc,
    ) in (
      c.in-Some.record.now,
      popped (records_of c.args.self.now) c.pop.new.self c.pop.result c.in-Some.record.now at_end c.pop.ensures.rest c.pop.ensures.none,
      only,
      search rules,
    )

-- a last record that is not undone
not_undone : (js : List JournalEntry) (r : JournalEntry) (t : List ℕ) (refused : Refused) → IsLast js r → IsChangeCallResult Backward r.edits t (Err refused)
    → RefusesRevert (with_records t js) (fault_of_refused refused)
not_undone js r t (Length expected found) last pieces = (r, last, pieces)
not_undone js r t (Differs step edit) last pieces = (r, last, pieces)
not_undone js r t Memory last pieces = (r, last, pieces)

pub returns-in-Err-clause-refused : goal.returns-in-Err-clause-refused
returns-in-Err-clause-refused c =
    let records = records_of c.args.self.now in
    let text = c.as_slice.result.now in
    let at_end : slice_get (records_of c.args.self.now) (length (records_of c.args.self.now) - 1) ≡ Some c.in-Some.record.now = search rules in
    let refuses = not_undone records c.in-Some.record.now text c.in-Err.refused (take (length records - 1) records, ends_with_last records c.in-Some.record.now at_end)
    c.in-Err.ensures.pieces in
    subst (λ (fault : Fault). RefusesRevert (contents_of c.args.self.now) fault) (sym c.from.ensures)
    (subst (λ (t : List ℕ). RefusesRevert (with_records t records) (fault_of_refused c.in-Err.refused)) c.as_slice.ensures.value refuses)

-- what the check tries anyway: with an answer here, a mutant is refused without a second search
pub returns-in-Err-clause-journal : goal.returns-in-Err-clause-journal
returns-in-Err-clause-journal c = first_of (search rules, grind (arith, common_steps))
