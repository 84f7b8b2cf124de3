-- What records and journals answer is what they turn.
use Rattle.std.specs.Prelude.{◌≡◌, ◌≢◌, ◌↔◌, ℕ, List, Ok, Err}
use Rattle.edit_record.specs.declared.lists.change.Refused.TheVariants.{Memory}
use Rattle.edit_record.specs.declared.lists.direction.Direction.TheVariants.{Forward, Backward}
use Rattle.edit_record.specs.Lists.Journal.{JournalEntry, record_transforms, record_forward, record_backward}
use Rattle.edit_record.specs.Lists.Journal.{journal_transforms, journal_forward, journal_backward}
use Rattle.edit_record.specs.Lists.Inner.SequenceExact.{forward_all_exact, backward_all_exact}
use Rattle.edit_record.specs.Lists.Inner.SequenceExact.{forward_all_never, backward_all_never}
use Rattle.edit_record.specs.Lists.Inner.Exact.{forward_exact, backward_exact, answer_never_memory}

pub record_applies : (r : JournalEntry) (t u : List ℕ) → (record_forward r t ≡ Ok u)
    ↔ record_transforms r t u
record_applies r = forward_exact r.edits

pub record_undoes : (r : JournalEntry) (t u : List ℕ) → (record_backward r u ≡ Ok t)
    ↔ record_transforms r t u
record_undoes r = backward_exact r.edits

pub record_never_memory : (r : JournalEntry) (t : List ℕ)
    → (record_forward r t ≢ Err Memory) × (record_backward r t ≢ Err Memory)
record_never_memory r t =
    (answer_never_memory Forward r.edits t, answer_never_memory Backward r.edits t)

pub journal_applies : (rs : List JournalEntry) (t u : List ℕ)
    → (journal_forward rs t ≡ Ok u) ↔ journal_transforms rs t u
journal_applies = forward_all_exact record_transforms record_forward record_applies

pub journal_undoes : (rs : List JournalEntry) (t u : List ℕ)
    → (journal_backward rs u ≡ Ok t) ↔ journal_transforms rs t u
journal_undoes = backward_all_exact record_transforms record_backward record_undoes

pub journal_never_memory : (rs : List JournalEntry) (t : List ℕ)
    → (journal_forward rs t ≢ Err Memory) × (journal_backward rs t ≢ Err Memory)
journal_never_memory rs t = (
  forward_all_never record_forward (λ r x. (record_never_memory r x).0) rs t,
  backward_all_never record_backward (λ r x. (record_never_memory r x).1) rs t,
)
