-- What holds of a text and records holds of those that are equal to them.
use Rattle.std.proofs.Common.{◌≡◌, ℕ, List, subst}
use Rattle.edit_record.specs.Lists.Journal.{JournalEntry}
use Rattle.tf_session.specs.Session.{SessionContents, with_records}

pub with_same : (P : SessionContents → Type 0) (t u : List ℕ) (js ks : List JournalEntry) → t ≡ u → js ≡ ks → P (with_records t js) → P (with_records u ks)
with_same P t u js ks texts records h =
    subst (λ (x : List ℕ). P (with_records x ks)) texts (subst (λ (x : List JournalEntry). P (with_records t x)) records h)
